use Rattle.std.proofs.Common.{rules, ◌≡◌, is_some, false, None, inl}
use Rattle.witness_search.proofs.trace_order.TwiceLemmas.{missed_twice, none_of, size_first-some, size_second-some}
use Rattle.witness_search.proofs.trace_order.turning.turned_size.Goals as goal

pub returns-then-is_some-clause-size : goal.returns-then-is_some-clause-size
returns-then-is_some-clause-size c =
    let r = c.args.indexed.now in
    size_first-some r c.len-len.ensures.disciplined c.args.pair.0 c.args.pair.1 (c.are_conflicting.ensures.second c.if-not-are_conflicting.false) c.in_ok-aim.aim c.in_ok-aim.ensures
    (c.are_conflicting.ensures.conflict.0 c.if-not-are_conflicting.false) c.args.left.now c.in_ok-size.size c.in_ok-size.ensures.size

pub returns-clause-size : goal.returns-clause-size
returns-clause-size c =
    let r = c.args.indexed.now in
    let none : is_some c.in_ok-size.size ≡ false = search rules in
    size_second-some r c.len-len.ensures.disciplined c.args.pair.0 c.args.pair.1 (c.are_conflicting.ensures.second c.if-not-are_conflicting.false) c.in_ok-aim.aim c.in_ok-aim.ensures
    (c.are_conflicting.ensures.conflict.0 c.if-not-are_conflicting.false) c.args.left.now c.size_of.new.left c.in_ok-again.again
    (c.in_ok-size.ensures.none (none_of c.in_ok-size.size none)) c.in_ok-again.ensures.size

pub returns-clause-none : goal.returns-clause-none
returns-clause-none c =
    let r = c.args.indexed.now in
    let none : is_some c.in_ok-size.size ≡ false = search rules in
    let conflict = c.are_conflicting.ensures.conflict.0 c.if-not-are_conflicting.false in
    λ is. inl (
      conflict,
      c.size_again.new.left,
      missed_twice r c.len-len.ensures.disciplined c.args.pair.0 c.args.pair.1 (c.are_conflicting.ensures.second c.if-not-are_conflicting.false) c.in_ok-aim.aim c.in_ok-aim.ensures
          c.args.left.now c.size_of.new.left c.size_again.new.left (c.in_ok-size.ensures.none (none_of c.in_ok-size.size none)) (c.in_ok-again.ensures.none is),
    )

pub returns-clause-left : goal.returns-clause-left
returns-clause-left c =
    let r = c.args.indexed.now in
    let none : is_some c.in_ok-size.size ≡ false = search rules in
    λ is _. missed_twice r c.len-len.ensures.disciplined c.args.pair.0 c.args.pair.1 (c.are_conflicting.ensures.second c.if-not-are_conflicting.false) c.in_ok-aim.aim c.in_ok-aim.ensures
    c.args.left.now c.size_of.new.left c.size_again.new.left (c.in_ok-size.ensures.none (none_of c.in_ok-size.size none)) (c.in_ok-again.ensures.none is)
