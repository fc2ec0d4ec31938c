-- The least number of which something holds, and the first that a look finds.
use Rattle.std.proofs.Common.{◌≡◌, ℕ, ◌<◌, Bool, true, find, Option, Some, None, sym, refl, ap, ◌∙◌, arith, inl, inr}
use Rattle.std.proofs.lemmas.Bool.{cases_lt, true≢false}
use Rattle.event_index.specs.Least.{IsLeastOf}
use Rattle.event_index.specs.Lookups.{before}
use Rattle.event_index.proofs.ScanLemmas.{find_first_is, find_none}

-- of what holds of the same numbers the same is the least
pub IsLeastOf-same : (Q R : ℕ → Type 0) → ((e : ℕ) → Q e → R e) → ((e : ℕ) → R e → Q e) → (r : Option ℕ) → IsLeastOf Q r → IsLeastOf R r
IsLeastOf-same Q R there back None is = λ e h. is e (back e h)
IsLeastOf-same Q R there back (Some x) is = (there x is.0, λ e h. is.1 e (back e h))

-- there is one least
pub IsLeastOf-unique : (Q : ℕ → Type 0) (r s : Option ℕ) → IsLeastOf Q r → IsLeastOf Q s → r ≡ s
IsLeastOf-unique Q None None is also = refl
IsLeastOf-unique Q None (Some y) is also = absurd (is y also.0)
IsLeastOf-unique Q (Some x) None is also = absurd (also x is.0)
IsLeastOf-unique Q (Some x) (Some y) is also = ap Some (omega (arith, is.1 y also.0, also.1 x is.0))

-- what a look from 0 on finds
pub find_cases : (q : ℕ → Bool) (n : ℕ) (o : Option ℕ) → find q (before n) ≡ o → IsLeastOf (λ e. (e < n) × (q e ≡ true)) o
find_cases q n None is = λ e h. true≢false (sym h.1 ∙ find_none q 0 n is e (omega arith) (omega (arith, h.0)))
find_cases q n (Some x) is =
    let first = find_first_is q 0 n x is in (
      (omega (arith, first.1), first.2),
      λ e h. elim (cases_lt e x) [
        | inl early ↦ absurd (true≢false (sym h.1 ∙ first.3 e (omega arith) early))
        | inr late ↦ late
      ],
    )

-- the least of the first n numbers that pass is found
pub find-least : (q : ℕ → Bool) (n : ℕ) (r : Option ℕ) → IsLeastOf (λ e. (e < n) × (q e ≡ true)) r → find q (before n) ≡ r
find-least q n r is = IsLeastOf-unique (λ e. (e < n) × (q e ≡ true)) (find q (before n)) r (find_cases q n (find q (before n)) refl) is
