use Rattle.std.proofs.Common.{rules, ◌≡◌, is_some, true, false, inl}
use Rattle.witness_search.proofs.trace_order.TwiceLemmas.{twice_again, twice_first}
use Rattle.witness_search.proofs.trace_order.turning.turned.Goals as goal

pub returns-then-is_some-clause-answer : goal.returns-then-is_some-clause-answer
returns-then-is_some-clause-answer c =
    let T = c.args.indexed.now.events in
    let some : is_some c.in_ok-found.found ≡ true = search rules in
    inl (
      c.are_conflicting.ensures.conflict.0 c.if-not-are_conflicting.false,
      c.search_first.new.left,
      twice_first T c.args.first c.args.second c.args.budget c.search_first.new.left c.in_ok-found.found some c.in_ok-found.ensures.found,
    )

pub returns-clause-answer : goal.returns-clause-answer
returns-clause-answer c =
    let T = c.args.indexed.now.events in
    let none : is_some c.in_ok-found.found ≡ false = search rules in
    inl (
      c.are_conflicting.ensures.conflict.0 c.if-not-are_conflicting.false,
      c.search_again.new.left,
      twice_again T c.args.first c.args.second c.args.budget c.search_first.new.left c.search_again.new.left c.in_ok-found.found c.in_ok-again.again none c.in_ok-found.ensures.found c.in_ok-again.ensures.found,
    )
