use Rattle.std.proofs.Common.{◌≡◌, ◌<◌, ◌↔◌, List, ℕ, Some, IsTrue, get_or, length, sym, ap, ◌∙◌, subst, arith}
use Rattle.std.proofs.lemmas.Option.{slice_get-get_or}
use Rattle.rapid_text.specs.Recording.{Recording, IsNamedOp}
use Rattle.event_index.specs.Lookups.{last_write, last_writer}
use Rattle.shb_clocks.proofs.CallerLemmas.{thread_here, op_here}
use Rattle.witness_search.specs.trace_order.Acquires.{AreLanes, AreTaken}
use Rattle.witness_search.specs.trace_order.Counting.{IsHeldByOther}
use Rattle.witness_search.proofs.trace_order.EnableLemmas.{free_read, free_acquire, free_join, same_options}
use Rattle.witness_search.proofs.trace_order.SearchLemmas.{at_read}
use Rattle.witness_search.proofs.trace_order.enabling.is_free.Goals as goal

pub is_held-requires-clause-lanes : goal.is_held-requires-clause-lanes
is_held-requires-clause-lanes c =
    let r = c.args.indexed.now in
    let items = c.acquires.inside.by_lock.items in
    let l = c.in-Acquire.lock in
    let taken = subst (λ (q : Recording). AreTaken q items) (c.acquires.view_is ∙ c.requires.acquires) c.acquires.invariant.taken in
    let named : l < length r.locks = subst (IsNamedOp r) c.in-Acquire.is c.event-found.ensures.named.1 in
    let low : l < length items = omega (arith, named, taken.len) in
    subst (AreLanes r l) (sym c.as_slice.ensures.value)
    (taken.lanes l c.index.result.now (slice_get-get_or items l c.index.result.now low ∙ ap Some (sym c.index.ensures)))

pub returns-in-Read : goal.returns-in-Read
returns-in-Read c =
    let T = c.args.indexed.now.events in
    let row : ℕ → ℕ = λ t. get_or c.args.reached.now.row.items t 0 in
    let e = c.args.event in
    let v = c.event-found.result in
    let x = c.in-Read.variable in
    λ P at.
    let equal = same_options c.last_write.result c.last_writer.result c.eq.result c.eq.ensures in
    let one : c.last_write.result ≡ last_write T x P = c.last_write.ensures P row at in
    free_read T row P at.correct at.counts e v.op (op_here T e v c.event-found.ensures.found) x c.in-Read.is c.eq.result
    (λ so. sym one ∙ equal.0 so ∙ c.last_writer.ensures.writer, λ also. equal.1 (one ∙ also ∙ sym c.last_writer.ensures.writer))

pub returns-in-Acquire : goal.returns-in-Acquire
returns-in-Acquire c =
    let T = c.args.indexed.now.events in
    let row : ℕ → ℕ = λ t. get_or c.args.reached.now.row.items t 0 in
    let e = c.args.event in
    let v = c.event-found.result in
    λ P at.
    free_acquire T row P at.correct at.counts e v.op (op_here T e v c.event-found.ensures.found) c.event-found.ensures.disciplined c.in-Acquire.lock v.thread c.in-Acquire.is
    (thread_here T e v c.event-found.ensures.found) c.is_held.result
    (subst (λ (xs : List ℕ). IsTrue c.is_held.result ↔ IsHeldByOther T (λ t. get_or xs t 0) c.in-Acquire.lock v.thread) c.as_slice-row.ensures.value c.is_held.ensures)

pub returns-in-Join : goal.returns-in-Join
returns-in-Join c =
    let T = c.args.indexed.now.events in
    let row : ℕ → ℕ = λ t. get_or c.args.reached.now.row.items t 0 in
    let start : ℕ → ℕ = λ t. get_or c.args.aim.now.start.items t 0 in
    let e = c.args.event in
    let v = c.event-found.result in
    λ P at.
    free_join T row P at.correct at.counts e v.op (op_here T e v c.event-found.ensures.found) c.in-Join.thread c.in-Join.is c.is_ended.result
    (c.is_ended.ensures P start _ (at_read T start c.args.reached.now.row.items c.as_slice-row.result.now _ P c.as_slice-row.ensures.value at))
