use Rattle.std.proofs.Common.{◌≡◌, ℕ, ◌+◌, ◌<◌, length, sym, ap, subst, arith}
use Rattle.event_index.specs.Lookups.{events_of}
use Rattle.witness_search.specs.trace_order.Acquires.{AreTakenUpTo}
use Rattle.witness_search.proofs.trace_order.LaneLemmas.{AreTakenUpTo-next}
use Rattle.witness_search.proofs.trace_order.TakeLemmas.{read_event}
use Rattle.witness_search.proofs.trace_order.acquires.add_thread.Goals as goal

pub add_event-requires-clause-known : goal.add_event-requires-clause-known
add_event-requires-clause-known c =
    let r = c.args.indexed.now in
    let t = c.args.thread in
    let k = c.loop-place.place in
    let xs = c.thread_events-events.result.now in
    let low : k < length (events_of r.events t) = omega (arith, c.loop-place-test.true, ap length c.thread_events-events.ensures.events) in
    subst (λ (n : ℕ). AreTakenUpTo r t n c.loop-place.by_lock.items) (sym (read_event r.events t k xs c.thread_events-events.ensures.events low))
    c.loop-place.invariant

pub loop-place-preserved : goal.loop-place-preserved
loop-place-preserved c =
    let r = c.args.indexed.now in
    let t = c.args.thread in
    let k = c.loop-place.place in
    let xs = c.thread_events-events.result.now in
    let low : k < length (events_of r.events t) = omega (arith, c.loop-place-test.true, ap length c.thread_events-events.ensures.events) in
    subst (λ (n : ℕ). AreTakenUpTo r t (n + 1) c.add_event.new.by_lock.items) (read_event r.events t k xs c.thread_events-events.ensures.events low)
    c.in_ok-add_event.ensures

pub returns : goal.returns
returns c =
    let r = c.args.indexed.now in
    let t = c.args.thread in
    let end : c.loop-place.place ≡ length (events_of r.events t) =
    omega (arith, c.loop-place-test.false, c.loop-place.auto.place-end, ap length c.thread_events-events.ensures.events) in
    AreTakenUpTo-next r t c.loop-place.by_lock.items (subst (λ (n : ℕ). AreTakenUpTo r t n c.loop-place.by_lock.items) end c.loop-place.invariant)
