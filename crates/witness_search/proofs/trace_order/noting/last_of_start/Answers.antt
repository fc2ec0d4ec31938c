use Rattle.std.proofs.Common.{◌<◌, List, ℕ, Some, length, sym, ap, ◌∙◌, subst, arith}
use Rattle.std.proofs.lemmas.Option.{slice_get-get_or}
use Rattle.rapid_text.specs.Recording.{Recording}
use Rattle.witness_search.specs.trace_order.Tables.{AreWritesOf, AreWritesUpTo}
use Rattle.witness_search.proofs.trace_order.noting.last_of_start.Goals as goal

pub last_counted-requires-clause-writes : goal.last_counted-requires-clause-writes
last_counted-requires-clause-writes c =
    let r = c.args.indexed.now in
    let items = c.acquires.inside.writes.items in
    let x = c.args.variable in
    let writes = subst (λ (q : Recording). AreWritesUpTo q (length q.events) items) (c.acquires.view_is ∙ c.requires.acquires) c.acquires.invariant.writes in
    let low : x < length items = omega (arith, c.requires.variable, writes.len) in
    subst (AreWritesOf r.events (length r.events) x) (sym c.as_slice.ensures.value)
    (writes.of x c.index.result.now (slice_get-get_or items x c.index.result.now low ∙ ap Some (sym c.index.ensures)))
