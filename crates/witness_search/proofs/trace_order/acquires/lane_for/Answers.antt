use Rattle.std.proofs.Common.{◌<◌, ◌-◌, List, length, sym, subst, refl}
use Rattle.event_index.specs.Lookups.{place_of}
use Rattle.witness_search.specs.trace_order.Acquires.{IsOneOf, AreLanesUpTo}
use Rattle.witness_search.specs.declared.trace_order.acquires.Lane.{Lane}
use Rattle.witness_search.proofs.trace_order.LaneLemmas.{AreLanesUpTo-begun}
use Rattle.witness_search.proofs.trace_order.acquires.lane_for.Goals as goal

pub returns-clause-known : goal.returns-clause-known
returns-clause-known c =
    let r = c.args.indexed.now in
    let lanes = c.args.lanes.now.items in
    let other = subst (λ (xs : List Lane). 0 < length xs → ¬ IsOneOf xs (length xs - 1) c.args.thread) c.as_slice.ensures.value
    (c.is_last_of.ensures.other c.if-is_last_of.false) in
    subst (λ (xs : List Lane). AreLanesUpTo r.events (length r.threads) c.args.lock c.args.thread (place_of r.events c.args.event) xs)
    (sym c.in_ok-push.ensures.items)
    (AreLanesUpTo-begun r.events (length r.threads) c.args.lock c.args.thread (place_of r.events c.args.event) lanes c.requires.known c.requires.named other
    (record { thread = c.args.thread; events = c.new-events.result }) refl c.new-events.ensures.items)
