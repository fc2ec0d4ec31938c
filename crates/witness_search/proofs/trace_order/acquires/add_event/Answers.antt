use Rattle.std.proofs.Common.{◌<◌, Some, length, refl, sym, ap, ◌∙◌, arith}
use Rattle.std.proofs.lemmas.Option.{slice_get-get_or}
use Rattle.event_index.specs.Lookups.{place_of}
use Rattle.must_order.proofs.TableLemmas.{is_outer-not}
use Rattle.witness_search.proofs.trace_order.LaneLemmas.{AreTakenUpTo-same, AreTakenUpTo-set}
use Rattle.witness_search.proofs.trace_order.acquires.add_event.Goals as goal

pub add_acquire-requires-clause-known : goal.add_acquire-requires-clause-known
add_acquire-requires-clause-known c =
    let by_lock = c.args.by_lock.now.items in
    let l = c.in-Some.lock in
    let low : l < length by_lock = omega (arith, c.in-Some.ensures.named, c.requires.known.len) in
    c.requires.known.lanes l c.index_mut.result.now (slice_get-get_or by_lock l c.index_mut.result.now low ∙ ap Some (sym c.index_mut.ensures.value))

pub returns-in_ok-add_acquire : goal.returns-in_ok-add_acquire
returns-in_ok-add_acquire c =
    let r = c.args.indexed.now in
    let by_lock = c.args.by_lock.now.items in
    let l = c.in-Some.lock in
    let low : l < length by_lock = omega (arith, c.in-Some.ensures.named, c.requires.known.len) in
    AreTakenUpTo-set r c.args.thread (place_of r.events c.args.event) by_lock c.args.event l c.add_acquire.new.lanes c.requires.of refl
    c.in-Some.ensures.acquires low
    c.in_ok-add_acquire.ensures c.requires.known

pub returns-in_default : goal.returns-in_default
returns-in_default c =
    let r = c.args.indexed.now in
    AreTakenUpTo-same r c.args.thread (place_of r.events c.args.event) c.args.by_lock.now.items c.args.event c.requires.of refl
    (λ l. is_outer-not r.events c.args.event l (c.in_default.ensures.none refl l)) c.requires.known
