use Rattle.std.proofs.Common.{◌≡◌, ◌≢◌, ◌<◌, ℕ, get_or, length, refl, sym, ap, ◌∙◌, subst, arith, inl, inr}
use Rattle.std.proofs.lemmas.Bool.{cases_eq, false≢true}
use Rattle.witness_search.specs.trace_order.Counting.{IsHolding}
use Rattle.witness_search.specs.declared.trace_order.acquires.Lane.{Lane}
use Rattle.witness_search.proofs.trace_order.HoldLemmas.{not_held-all}
use Rattle.witness_search.proofs.trace_order.LastLemmas.{lane_read}
use Rattle.witness_search.proofs.trace_order.holding.is_held.Goals as goal

pub returns-then-is_held_by : goal.returns-then-is_held_by
returns-then-is_held_by c = (
  λ _. let held = c.is_held_by.ensures.0 c.if-is_held_by.true in (c.index-lanes-at.result.thread, held.0, held.1),
  λ _. refl,
)

pub loop-at-preserved : goal.loop-at-preserved
loop-at-preserved c =
    let T = c.args.indexed.now.events in
    let row : ℕ → ℕ = λ t. get_or c.args.row.now t 0 in
    let lanes = c.args.lanes.now in
    let low : c.loop-at.at < length lanes = omega (arith, c.loop-at-test.true, c.loop-at.auto.at-end) in
    λ i d lt. elim (cases_eq i c.loop-at.at) [
      | inl one ↦
          subst (λ (lane : Lane). lane.thread ≢ c.args.thread → ¬ IsHolding T row c.args.lock lane.thread)
          (lane_read lanes c.loop-at.at i c.index-lanes-at.result d low one c.index-lanes-at.is)
          (λ other holding. false≢true (sym c.if-is_held_by.false ∙ c.is_held_by.ensures.1 (other, holding)))
      | inr other ↦ c.loop-at.invariant i d (omega (arith, lt, other))
    ]

pub returns : goal.returns
returns c = (
  λ so. absurd (false≢true so),
  λ held.
      absurd
      (not_held-all c.args.indexed.now (λ t. get_or c.args.row.now t 0) c.args.lock c.args.thread c.args.lanes.now c.requires.lanes
      (λ i d lt. c.loop-at.invariant i d (omega (arith, lt, c.loop-at-test.false))) held),
)
