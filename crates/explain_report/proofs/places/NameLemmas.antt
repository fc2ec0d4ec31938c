-- Whether a number below an end passes a test.
use Rattle.std.proofs.Common.{◌≡◌, ℕ, ◌+◌, ◌||◌, Bool, true, false, add-one, sym, ap, ◌∙◌}
use Rattle.explain_report.specs.places.Names.{any_below}

module _ (test : ℕ → Bool) (n : ℕ) where
  any_more : any_below test (n + 1) ≡ (any_below test n || test n)
  any_more = ap (any_below test) (add-one n)

  -- what passed before is kept
  pub kept : (b : Bool) → b ≡ any_below test n → b ≡ true → true ≡ any_below test (n + 1)
  kept b e so = sym (any_more ∙ ap (λ (x : Bool). x || test n) (sym e ∙ so))

  -- else the next one decides
  pub next : (b c : Bool) → b ≡ any_below test n → b ≡ false → c ≡ test n → c ≡ any_below test (n + 1)
  next b c e none here = here ∙ sym (any_more ∙ ap (λ (x : Bool). x || test n) (sym e ∙ none))
