-- What one more pair of requests makes of a verdict.
use Rattle.std.proofs.Common.{◌≡◌, ◌≢◌, ◌⊎◌, ℕ, List, refl, sym, ap, ◌∙◌, subst, inl, inr}
use Rattle.rapid_text.specs.declared.event.Event.{Event}
use Rattle.deadlock_triage.specs.Rows.{IsNext}
use Rattle.deadlock_triage.specs.Verdicts.{IsNeverShown, IsOutcome, IsShown}
use Rattle.deadlock_triage.specs.declared.outcomes.How.{How}
use Rattle.deadlock_triage.specs.declared.outcomes.Outcome.{Outcome}
use Rattle.deadlock_triage.specs.declared.outcomes.Outcome.TheVariants.{Apart, Deadlock, Undecided}
use Rattle.deadlock_triage.specs.declared.outcomes.Verdict.{Verdict}

undecided_not : (tried : ℕ) → Undecided tried ≢ Apart
undecided_not tried same = cc

deadlock_not : (how : How) (events threads : ℕ) → Deadlock how events threads ≢ Apart
deadlock_not how events threads same = cc

module _ (T : List Event) (e d : ℕ) (old : Verdict) where
  -- the verdict stays, and is not apart
  pub next-kept : old.outcome ≢ Apart → IsNext T e d old old
  next-kept not_apart = record { pattern = refl; named = inl (refl, refl); outcome = λ o. o; apart = λ is. absurd (not_apart is) }

  pub next-kept_undecided : (tried : ℕ) → old.outcome ≡ Undecided tried → IsNext T e d old old
  next-kept_undecided tried is = next-kept (λ apart. undecided_not tried (sym is ∙ apart))

  pub next-kept_deadlock : (how : How) (events threads : ℕ) → old.outcome ≡ Deadlock how events threads → IsNext T e d old old
  next-kept_deadlock how events threads is = next-kept (λ apart. deadlock_not how events threads (sym is ∙ apart))

  module _ (new : Verdict) (pattern : new.pattern ≡ old.pattern) where
    pub next-undecided : ((new.first ≡ old.first) × (new.second ≡ old.second)) ⊎ ((new.first ≡ e) × (new.second ≡ d)) → (tried : ℕ) → new.outcome ≡ Undecided tried
        → IsNext T e d old new
    next-undecided named tried is = record {
      pattern = pattern;
      named = named;
      outcome = λ _. subst (IsOutcome T new.first new.second) (sym is) tt;
      apart = λ apart. absurd (undecided_not tried (sym is ∙ apart));
    }

    pub next-never : new.first ≡ old.first → new.second ≡ old.second → new.outcome ≡ old.outcome → IsNeverShown T e d → IsNext T e d old new
    next-never first second is never = record {
      pattern = pattern;
      named = inl (first, second);
      outcome = λ o.
          subst (IsOutcome T new.first new.second) (sym is)
          (subst (λ (a : ℕ). IsOutcome T a new.second old.outcome) (sym first) (subst (λ (b : ℕ). IsOutcome T old.first b old.outcome) (sym second) o));
      apart = λ apart. (sym is ∙ apart, never);
    }

    pub next-shown : new.first ≡ e → new.second ≡ d → (how : How) (events threads : ℕ) → new.outcome ≡ Deadlock how events threads → IsShown T e d how events threads
        → IsNext T e d old new
    next-shown first second how events threads is shown = record {
      pattern = pattern;
      named = inr (first, second);
      outcome = λ _.
          subst (IsOutcome T new.first new.second) (sym is)
          (subst (λ (a : ℕ). IsShown T a new.second how events threads) (sym first) (subst (λ (b : ℕ). IsShown T e b how events threads) (sym second) shown));
      apart = λ apart. absurd (deadlock_not how events threads (sym is ∙ apart));
    }
