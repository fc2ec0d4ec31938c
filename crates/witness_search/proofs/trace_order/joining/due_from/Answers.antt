use Rattle.std.proofs.Common.{ℕ, ◌<◌, List, Some, get_or, length, refl, sym, ap, subst, ◌∙◌, arith, inl, inr}
use Rattle.std.proofs.lemmas.Bool.{cases_eq}
use Rattle.std.proofs.lemmas.List.Elements.{All-get_or}
use Rattle.std.proofs.lemmas.Option.{slice_get-get_or}
use Rattle.witness_search.specs.trace_order.Acquires.{AreLanes}
use Rattle.witness_search.specs.trace_order.Joining.{IsClosedOn}
use Rattle.witness_search.specs.declared.trace_order.acquires.Lane.{Lane}
use Rattle.witness_search.proofs.trace_order.joining.due_from.Goals as goal

pub due_on-requires-clause-lanes : goal.due_on-requires-clause-lanes
due_on-requires-clause-lanes c =
    let r = c.args.indexed.now in
    let by_lock = c.args.by_lock.now in
    let l : ℕ = get_or c.args.shared.now c.loop-at.at 0 in
    let low : l < length by_lock = All-get_or (λ k. k < length by_lock) c.args.shared.now c.loop-at.at 0 (omega (arith, c.loop-at-test.true, c.requires.to)) c.requires.shared in
    let v = c.index-by_lock-lock.result in
    subst (λ (lanes : List Lane). AreLanes r l lanes) (sym c.as_slice.ensures.value)
    (c.requires.taken.lanes l v (slice_get-get_or by_lock l v low ∙ ap Some (sym c.index-by_lock-lock.is)))

pub loop-at-preserved : goal.loop-at-preserved
loop-at-preserved c =
    let shared = c.args.shared.now in
    λ i ge lt. elim (cases_eq i c.loop-at.at) [
      | inl one ↦
          subst (λ (k : ℕ). IsClosedOn c.args.indexed.now.events (λ t. get_or c.args.row.now t 0) (get_or shared k 0)) (sym one)
          (c.in_default.ensures.none refl)
      | inr other ↦ c.loop-at.invariant i ge (omega (arith, lt, other))
    ]

pub returns-clause-none : goal.returns-clause-none
returns-clause-none c = λ _ i ge lt. c.loop-at.invariant i ge (omega (arith, lt, c.loop-at-test.false))
