-- A run, an event at a time.
use Rattle.std.proofs.Common.{◌≡◌, ◌<◌, ◌≤◌, ◌+◌, ℕ, zero, suc, List, [], ◌∷◌, ◌++◌, Option, Some, None, ap, sym, ◌∙◌, refl, arith}
use Rattle.std.proofs.lemmas.Bool.{cond_below, cond_above}
use Rattle.rapid_text.specs.declared.event.Event.{Event}
use Rattle.schedule.specs.declared.refusal.Disabled.{Disabled}
use Rattle.schedule.specs.Refusals.{next_of, refusal_of}
use Rattle.kept_session.specs.QuestionItems.{added, item, run_by, run_from, run_of}

-- adding twice is adding the sum
pub added-added : (m n k : ℕ) (r : ℕ × List ℕ) → k ≡ m + n → added m (added n r) ≡ added k r
added-added m n k r sum = ap (λ (j : ℕ). (j, r.1)) (omega (arith, sum))

-- nothing is added
pub added-none : (m k : ℕ) (words : List ℕ) → k ≡ m → added m (0, words) ≡ (k, words)
added-none m k words same = ap (λ (j : ℕ). (j, words)) (omega (arith, same))

module _ (T : List Event) (P : List ℕ) (t last : ℕ) where
  abbrev more : ℕ → ℕ → ℕ × List ℕ
  more n e = run_of n T (P ++ e ∷ []) t last

  by_next : (n : ℕ) (o : Option ℕ) → next_of T P t ≡ o → run_of (suc n) T P t last ≡ run_from T P last o (more n)
  by_next n o is = ap (λ (p : Option ℕ). run_from T P last p (more n)) is

  -- a thread without a next event
  pub run-none : (n : ℕ) → next_of T P t ≡ None → run_of n T P t last ≡ (0, [])
  run-none zero is = refl
  run-none (suc n) is = by_next n None is

  -- the next event comes after the last that is asked for
  pub run-late : (n e : ℕ) → next_of T P t ≡ Some e → last < e → run_of n T P t last ≡ (0, [])
  run-late zero e is late = refl
  run-late (suc n) e is late =
      by_next n (Some e) is ∙ sym (cond_below last e (0, []) (run_by T P e (refusal_of T P e) (more n e)) late)

  by_cause : (n e : ℕ) (o : Option Disabled) → next_of T P t ≡ Some e → e ≤ last → refusal_of T P e ≡ o → run_of (suc n) T P t last ≡ run_by T P e o (more n e)
  by_cause n e o is within cause =
      by_next n (Some e) is
      ∙ sym (cond_above last e (0, []) (run_by T P e (refusal_of T P e) (more n e)) (run_by T P e (refusal_of T P e) (more n e)) within refl)
      ∙ ap (λ (p : Option Disabled). run_by T P e p (more n e)) cause

  -- the next event may not come next
  pub run-refused : (n e : ℕ) (cause : Disabled) → 0 < n → next_of T P t ≡ Some e → e ≤ last → refusal_of T P e ≡ Some cause → run_of n T P t last ≡ (0, item T P e)
  run-refused zero e cause some is within refused = absurd (omega (arith, some))
  run-refused (suc n) e cause some is within refused = by_cause n e (Some cause) is within refused

  -- one event more is added
  pub run-more : (n m e : ℕ) → n ≡ suc m → next_of T P t ≡ Some e → e ≤ last → refusal_of T P e ≡ None → run_of n T P t last ≡ added 1 (run_of m T (P ++ e ∷ []) t last)
  run-more n m e one is within none = ap (λ (k : ℕ). run_of k T P t last) one ∙ by_cause m e None is within none
