use Rattle.std.proofs.Common.{◌≡◌, ◌≢◌, ℕ, ◌<◌, Some, None, length, get_or, refl, sym, ap, subst, ◌∙◌, arith, inl, inr}
use Rattle.std.proofs.lemmas.Bool.{cases_eq}
use Rattle.std.proofs.lemmas.Option.{none-some, same_Some}
use Rattle.witness_search.specs.trace_order.Joining.{IsUpToLatest, AreEnded}
use Rattle.witness_search.specs.declared.trace_order.acquires.Lane.{Lane}
use Rattle.witness_search.specs.declared.trace_order.lasting.Latest.{Latest}
use Rattle.witness_search.proofs.trace_order.LastLemmas.{closed_on, lane_read}
use Rattle.witness_search.proofs.trace_order.lasting.due_on.Goals as goal

pub returns-in_err-latest-clause-none : goal.returns-in_err-latest-clause-none
returns-in_err-latest-clause-none c =
    λ _. closed_on c.args.indexed.now c.len-len.ensures.disciplined (λ t. get_or c.args.row.now t 0) c.args.lock c.args.lanes.now c.requires.lanes None
    c.in_err-latest.ensures.last tt
    (λ m known. absurd (none-some m known))

pub due_by-requires-clause-last : goal.due_by-requires-clause-last
due_by-requires-clause-last c =
    let T = c.args.indexed.now.events in
    let lanes = c.args.lanes.now in
    let low : c.loop-at.at < length lanes = omega (arith, c.loop-at-test.true, c.loop-at.auto.at-end) in
    subst (λ (lane : Lane). IsUpToLatest T (λ t. get_or c.args.row.now t 0) (Some c.in_ok-latest.latest) lane.events.items)
    (sym (lane_read lanes c.loop-at.at c.loop-at.at c.index-lanes-at.result c.index-lanes-at.result low refl c.index-lanes-at.is))
    (c.in_ok-latest.ensures.last c.loop-at.at c.index-lanes-at.result low)

pub loop-at-preserved : goal.loop-at-preserved
loop-at-preserved c =
    let T = c.args.indexed.now.events in
    let row : ℕ → ℕ = λ t. get_or c.args.row.now t 0 in
    let lanes = c.args.lanes.now in
    let m = c.in_ok-latest.latest in
    let low : c.loop-at.at < length lanes = omega (arith, c.loop-at-test.true, c.loop-at.auto.at-end) in
    λ i d lt. elim (cases_eq i c.loop-at.at) [
      | inl one ↦
          subst (λ (lane : Lane). lane.thread ≢ m.thread → AreEnded T row lane.events.items)
          (lane_read lanes c.loop-at.at i c.index-lanes-at.result d low one c.index-lanes-at.is)
          (c.in_default.ensures.none refl)
      | inr other ↦ c.loop-at.invariant i d (omega (arith, lt, other))
    ]

pub returns-clause-none : goal.returns-clause-none
returns-clause-none c =
    let T = c.args.indexed.now.events in
    let row : ℕ → ℕ = λ t. get_or c.args.row.now t 0 in
    let lanes = c.args.lanes.now in
    let m = c.in_ok-latest.latest in
    λ _. closed_on c.args.indexed.now c.len-len.ensures.disciplined row c.args.lock lanes c.requires.lanes (Some m) c.in_ok-latest.ensures.last
    c.in_ok-latest.ensures.counted
    (λ n known i d lt other.
    let one : m ≡ n = same_Some m n known in
    c.loop-at.invariant i d (omega (arith, lt, c.loop-at-test.false)) (λ same_thread. other (same_thread ∙ ap (λ (x : Latest). x.thread) one)))
