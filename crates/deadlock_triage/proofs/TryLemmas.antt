-- The first arrow of a location.
use Rattle.std.proofs.Common.{◌≡◌, ℕ, ◌+◌, ◌-◌, ◌<◌, ◌≤◌, Bool, Decides, true, false, List, length, drop, take, take_all, sym, ap, ◌∙◌, arith, inl, inr}
use Rattle.std.proofs.lemmas.Bool.{cases_order, true≢false}
use Rattle.std.proofs.lemmas.List.{length-drop}
use Rattle.deadlock_triage.specs.Tries.{IsTry, begins_try, is_arrow}

-- the rest of a location
pub rest_is : (location : List ℕ) (start : ℕ) → take (length location - start) (drop start location) ≡ drop start location
rest_is location start = take_all (length location - start) (drop start location) (omega (arith, length-drop start location))

module _ (location : List ℕ) (at : ℕ) (none : (k : ℕ) → k < at → is_arrow location k ≡ false) where
  pub try-none : length location ≤ at → ¬ IsTry location
  try-none past t = true≢false (sym t.arrow ∙ none t.at (omega (arith, t.within, past)))

  module _ (within : at < length location) (arrow : is_arrow location at ≡ true) where
    one_place : (t : IsTry location) → t.at ≡ at
    one_place t =
        elim (cases_order t.at at) [
          | inl same ↦ same
          | inr other ↦ elim other [
            | inl low ↦ absurd (true≢false (sym t.arrow ∙ none t.at low))
            | inr high ↦ absurd (true≢false (sym arrow ∙ t.first at high))
          ]
        ]

    pub try-here : (b : Bool) → b ≡ begins_try (drop (at + 3) location) → Decides b (IsTry location)
    try-here b is = (
      λ so. record { at = at; within = within; arrow = arrow; first = none; mark = sym is ∙ so },
      λ t. is ∙ ap (λ (n : ℕ). begins_try (drop (n + 3) location)) (sym (one_place t)) ∙ t.mark,
    )
