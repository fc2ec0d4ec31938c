use Rattle.std.proofs.Common.{length, refl, sym, ◌∙◌, arith}
use Rattle.event_index.specs.Lookups.{place_of}
use Rattle.witness_search.proofs.trace_order.LaneLemmas.{AreLanesUpTo-more, AreLanesUpTo-same, rising_read, members_read}
use Rattle.witness_search.proofs.trace_order.acquires.add_acquire.Goals as goal

pub is_free-requires-clause-rising : goal.is_free-requires-clause-rising
is_free-requires-clause-rising c =
    let r = c.args.indexed.now in
    rising_read r.events (length r.threads) c.args.lock c.args.thread (place_of r.events c.args.event) c.lane_for.new.lanes.items c.in_ok-at.ensures.known
    c.in_ok-at.at
    (omega (arith, c.in_ok-at.ensures.last)) c.in_ok-at.ensures.thread c.index.result.now c.index.ensures c.as_slice.result.now c.as_slice.ensures.value

pub is_free-requires-clause-members : goal.is_free-requires-clause-members
is_free-requires-clause-members c =
    let r = c.args.indexed.now in
    members_read r.events (length r.threads) c.args.lock c.args.thread (place_of r.events c.args.event) c.lane_for.new.lanes.items c.in_ok-at.ensures.known
    c.in_ok-at.at
    (omega (arith, c.in_ok-at.ensures.last)) c.in_ok-at.ensures.thread c.index.result.now c.index.ensures c.as_slice.result.now c.as_slice.ensures.value

pub returns-in_ok-push : goal.returns-in_ok-push
returns-in_ok-push c =
    let r = c.args.indexed.now in
    AreLanesUpTo-more r.events c.args.thread (place_of r.events c.args.event) c.args.event c.requires.of refl (length r.threads) c.args.lock
    c.lane_for.new.lanes.items c.in_ok-at.at c.index_mut.result.now c.push.new.self c.in_ok-at.ensures.last c.in_ok-at.ensures.thread c.index_mut.ensures.value
    (sym c.is_free.ensures ∙ c.if-is_free.true) c.in_ok-push.ensures.items c.in_ok-at.ensures.known

pub returns-else-is_free : goal.returns-else-is_free
returns-else-is_free c =
    let r = c.args.indexed.now in
    AreLanesUpTo-same r.events c.args.thread (place_of r.events c.args.event) c.args.event c.requires.of refl (length r.threads) c.args.lock
    c.lane_for.new.lanes.items (sym c.is_free.ensures ∙ c.if-is_free.false) c.in_ok-at.ensures.known
