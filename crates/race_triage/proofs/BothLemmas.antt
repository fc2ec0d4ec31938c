-- A fact of two values holds of values that are equal to them.
use Rattle.std.proofs.Common.{◌≡◌, subst}

pub both_along : {A B : Type 0} (P : A → B → Type 0) (a c : A) (b d : B) → a ≡ c → b ≡ d → P a b → P c d
both_along P a c b d e f p = subst (λ x. P x d) e (subst (λ y. P a y) f p)
