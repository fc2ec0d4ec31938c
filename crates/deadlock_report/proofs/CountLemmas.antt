-- What is counted of one verdict more.
use Rattle.std.proofs.Common.{◌≡◌, ℕ, ◌+◌, ◌-◌, ◌^◌, ◌++◌, ◌∷◌, [], min, List, length, sum_by, ap, sym, ◌∙◌, arith}
use Rattle.std.proofs.lemmas.List.{length-append}
use Rattle.std.proofs.lemmas.List.Sums.{sum_by_push}
use Rattle.race_triage.specs.Pieces.{capped}
use Rattle.deadlock_triage.specs.declared.outcomes.Verdict.{Verdict}

least_twice : (most a k : ℕ) → min (min a most + k) most ≡ min (a + k) most
least_twice most a k = omega arith

-- a sum that stays at the greatest number is the sum of all, which stays there
pub one_more : (f : Verdict → ℕ) (vs : List Verdict) (v : Verdict) (old new k : ℕ) → old ≡ capped (sum_by f vs) → k ≡ f v → new ≡ min (old + k) (2 ^ 64 - 1)
    → new ≡ capped (sum_by f (vs ++ v ∷ []))
one_more f vs v old new k was is e =
    e
    ∙ ap (λ n. min (n + k) (2 ^ 64 - 1)) was
    ∙ least_twice (2 ^ 64 - 1) (sum_by f vs) k
    ∙ ap (λ n. min (sum_by f vs + n) (2 ^ 64 - 1)) is
    ∙ ap capped (sym (sum_by_push f vs v))

-- one verdict more
pub one_longer : (vs : List Verdict) (v : Verdict) (old new : ℕ) → old ≡ capped (length vs) → new ≡ min (old + 1) (2 ^ 64 - 1) → new ≡ capped (length (vs ++ v ∷ []))
one_longer vs v old new was e =
    e
    ∙ ap (λ n. min (n + 1) (2 ^ 64 - 1)) was
    ∙ least_twice (2 ^ 64 - 1) (length vs) 1
    ∙ ap capped (sym (length-append vs (v ∷ [])))
