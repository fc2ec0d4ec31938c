use Rattle.std.proofs.Common.{rules, ◌≡◌, ℕ, List, Ok, true, false, get_or, length, nat_eq, ap, subst}
use Rattle.std.specs.HashMap.{get}
use Rattle.witness_search.specs.trace_order.Layout.{IsListLength, IsThreadCount}
use Rattle.witness_search.proofs.trace_order.FoundLemmas.{aim_missed, aim_some}
use Rattle.witness_search.proofs.trace_order.turning.size_of.Goals as goal

pub returns-then-not-branch-clause-none : goal.returns-then-not-branch-clause-none
returns-then-not-branch-clause-none c =
    let missed : c.in_ok-search.field-0 ≡ false = search rules in
    λ _. aim_missed c.args.indexed.now c.len-len.ensures.disciplined c.args.aim.now c.requires.aim c.args.left.now
    c.search.new.left (c.in_ok-search.ensures.none (ap Ok missed)) (c.in_ok-search.ensures.left (ap Ok missed))

pub returns-clause-size : goal.returns-clause-size
returns-clause-size c =
    let r = c.args.indexed.now in
    let shown : c.in_ok-search.field-0 ≡ true = search rules in
    aim_some r c.len-len.ensures.disciplined c.args.aim.now c.requires.aim c.args.left.now
    c.len-len.ensures.well_formed c.search.new.reached.row.items (get nat_eq c.search.new.reached.last)
    (c.in_ok-search.ensures.shown (ap Ok shown)) c.events_counted.result c.threads_counted.result
    (subst (λ (xs : List ℕ). IsListLength r.events (λ t. get_or xs t 0) c.events_counted.result) c.as_slice.ensures.value c.events_counted.ensures)
    (subst (λ (xs : List ℕ). IsThreadCount (λ t. get_or xs t 0) (length r.threads) c.threads_counted.result) c.as_slice-2.ensures.value c.threads_counted.ensures)
