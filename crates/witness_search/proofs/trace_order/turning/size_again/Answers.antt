use Rattle.std.proofs.Common.{rules, ◌≡◌, ◌<◌, None, ap, subst, arith}
use Rattle.witness_search.proofs.trace_order.TwiceLemmas.{before_of, size_before-some}
use Rattle.witness_search.proofs.trace_order.turning.size_again.Goals as goal

pub returns-clause-size : goal.returns-clause-size
returns-clause-size c =
    let r = c.args.indexed.now in
    let some : 0 < c.args.left.now = search rules in
    size_before-some r c.len-len.ensures.disciplined c.args.aim c.in_ok-aim.aim c.in-Some.fronts c.in-Some.ensures.fronts c.in_ok-aim.ensures c.args.left.now some
    c.in_ok-size.size c.in_ok-size.ensures.size

pub returns-clause-none : goal.returns-clause-none
returns-clause-none c =
    let r = c.args.indexed.now in
    let some : 0 < c.args.left.now = search rules in
    λ none. before_of r c.len-len.ensures.disciplined c.args.aim c.in_ok-aim.aim c.in-Some.fronts c.in-Some.ensures.fronts c.in_ok-aim.ensures c.args.left.now some
    c.size_of.new.left None (c.in_ok-size.ensures.none none)
