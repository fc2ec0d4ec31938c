use Rattle.std.proofs.Common.{ℕ, ◌<◌, length, get_or, subst, arith, inl, inr}
use Rattle.std.proofs.lemmas.Bool.{cases_eq}
use Rattle.witness_search.specs.trace_order.Joining.{IsUpToLatest}
use Rattle.witness_search.specs.declared.trace_order.acquires.Lane.{Lane}
use Rattle.witness_search.proofs.trace_order.LastLemmas.{up_to_grows, lane_read}
use Rattle.witness_search.proofs.trace_order.lasting.latest_of.Goals as goal

pub loop-at-preserved : goal.loop-at-preserved
loop-at-preserved c =
    let T = c.args.indexed.now.events in
    let row : ℕ → ℕ = λ t. get_or c.args.row.now t 0 in
    let lanes = c.args.lanes.now in
    let low : c.loop-at.at < length lanes = omega (arith, c.loop-at-test.true, c.loop-at.auto.at-end) in
    record {
      counted = c.later-latest.ensures.counted;
      last = λ i d lt. elim (cases_eq i c.loop-at.at) [
        | inl one ↦
            subst (λ (lane : Lane). IsUpToLatest T row c.later-latest.result lane.events.items)
            (lane_read lanes c.loop-at.at i c.index-lanes-at.result d low one c.index-lanes-at.is)
            c.later-latest.ensures.last
        | inr other ↦
            up_to_grows T row (get_or lanes i d).events.items c.loop-at.latest c.later-latest.result c.later-latest.ensures.grows c.later-latest.ensures.stays
            (c.loop-at.invariant.last i d (omega (arith, lt, other)))
      ];
    }

pub returns-clause-last : goal.returns-clause-last
returns-clause-last c = λ i d lt. c.loop-at.invariant.last i d (omega (arith, lt, c.loop-at-test.false))
