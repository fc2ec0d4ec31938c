-- A sum with one more item.
use Rattle.std.proofs.Common.{◌≡◌, ℕ, ◌+◌, ◌-◌, ◌^◌, ◌++◌, ◌∷◌, [], min, List, sum_by, ap, sym, ◌∙◌, arith}
use Rattle.std.proofs.lemmas.List.Sums.{sum_by_push}
use Rattle.race_triage.specs.Pieces.{capped}

least_twice : (most a k : ℕ) → min (min a most + k) most ≡ min (a + k) most
least_twice most a k = omega arith

-- a sum that stays at the greatest number is the sum of all, which stays there
pub one_more : {A : Type 0} (f : A → ℕ) (xs : List A) (x : A) (old new k : ℕ) → old ≡ capped (sum_by f xs) → k ≡ f x → new ≡ min (old + k) (2 ^ 64 - 1)
    → new ≡ capped (sum_by f (xs ++ x ∷ []))
one_more f xs x old new k was is e =
    e
    ∙ ap (λ n. min (n + k) (2 ^ 64 - 1)) was
    ∙ least_twice (2 ^ 64 - 1) (sum_by f xs) k
    ∙ ap (λ n. min (sum_by f xs + n) (2 ^ 64 - 1)) is
    ∙ ap capped (sym (sum_by_push f xs x))
