-- The lines of steps, one step more at a time.
use Rattle.std.proofs.Common.{◌≡◌, ℕ, Bool, true, false, cond, List, [], ◌∷◌, ◌++◌, append_assoc, Option, Some, None, refl, sym, ap, ◌∙◌}
use Rattle.rapid_text.specs.Recording.{Recording}
use Rattle.must_order.specs.declared.chains.Step.{Step}
use Rattle.explain_report.specs.Chains.{is_later, later_text, step_text, steps_text}

module _ (r : Recording) (d : ℕ) (later : Option ℕ) (s : Step) (rest : List Step) where
  -- a step along the thread waits
  pub step_waits : is_later s.reason ≡ true → steps_text r d (Some s.to) rest ≡ steps_text r d later (s ∷ rest)
  unfolding steps_text
  step_waits so = sym (ap (λ b. cond b (steps_text r d (Some s.to) rest) (later_text r d later ++ step_text r d s ++ steps_text r d None rest)) so)

  -- any other is told behind those that wait
  pub step_told : is_later s.reason ≡ false → (old first new : List ℕ) → first ≡ old ++ later_text r d later → new ≡ first ++ step_text r d s
      → new ++ steps_text r d None rest ≡ old ++ steps_text r d later (s ∷ rest)
  unfolding steps_text
  step_told so old first new e1 e2 =
      let whole : new ++ steps_text r d None rest ≡ ((old ++ later_text r d later) ++ step_text r d s) ++ steps_text r d None rest = rw e2 (rw e1 refl) in
      let flat : ((old ++ later_text r d later) ++ step_text r d s) ++ steps_text r d None rest ≡ old ++ (later_text r d later ++ step_text r d s ++ steps_text r d None rest) = simp append_assoc in
      whole ∙ flat ∙ ap (λ (t : List ℕ). old ++ t) (sym (ap (λ b. cond b (steps_text r d (Some s.to) rest) (later_text r d later ++ step_text r d s ++ steps_text r d None rest)) so))

-- no step is left
pub steps_end : (r : Recording) (d : ℕ) (later : Option ℕ) → later_text r d later ≡ steps_text r d later []
unfolding steps_text
steps_end r d later = refl
