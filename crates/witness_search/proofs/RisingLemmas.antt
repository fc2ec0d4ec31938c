-- A rising list is known by its members.
use Rattle.std.proofs.Common.{◌≡◌, ℕ, zero, suc, ◌<◌, ◌≤◌, ◌⊎◌, List, [], ◌∷◌, get_or, Contains, sym, refl, ap₂, arith, inl, inr}
use Rattle.std.specs.List.{AllPairs}
use Rattle.schedule.specs.Refusals.{is_in}
use Rattle.schedule.proofs.CallerLemmas.{Contains-here, Contains-later, is_in-true, is_in-member}
use Rattle.witness_search.specs.Layout.{kept}
use Rattle.witness_search.proofs.KeptLemmas.{kept_member, kept_passes, kept-rises}

abbrev pub IsRising : List ℕ → Type 0
IsRising P = AllPairs (λ x y. x < y) P

rest_rises : (x : ℕ) (P : List ℕ) → IsRising (x ∷ P) → IsRising P
rest_rises x P rising i j d less low = rising (suc i) (suc j) d (omega arith) (omega arith)

below_rest : (x : ℕ) (P : List ℕ) → IsRising (x ∷ P) → (e : ℕ) → Contains P e → x < e
below_rest x P rising e (k, lt, at) =
    let step : x < get_or P k e = rising 0 (suc k) e (omega arith) (omega arith) in
    omega (arith, at)

-- a member is the first one or one of the rest
pub member_cases : (x : ℕ) (P : List ℕ) (e : ℕ) → Contains (x ∷ P) e → (x ≡ e) ⊎ Contains P e
member_cases x P e (zero, lt, at) = inl at
member_cases x P e (suc k, lt, at) = inr (k, omega arith, at)

pub no_member : (e : ℕ) → Contains [] e → ⊥
no_member e (k, lt, at) = omega arith

-- the members of the rest are those of the list above its first one
inside_rest : (x y : ℕ) (P Q : List ℕ) → x ≡ y → IsRising (x ∷ P) → ((e : ℕ) → Contains (x ∷ P) e → Contains (y ∷ Q) e) → (e : ℕ) → Contains P e → Contains Q e
inside_rest x y P Q same rising inside e m =
    elim (member_cases y Q e (inside e (Contains-later x e P m))) [
      | inl is ↦ absurd (omega (arith, below_rest x P rising e m))
      | inr rest ↦ rest
    ]

first_le : (y : ℕ) (Q : List ℕ) → IsRising (y ∷ Q) → (e : ℕ) → Contains (y ∷ Q) e → y ≤ e
first_le y Q rising e m = elim (member_cases y Q e m) [ inl is ↦ omega arith | inr rest ↦ omega (arith, below_rest y Q rising e rest) ]

-- two rising lists with the same members are one
pub rising-unique : (P Q : List ℕ) → IsRising P → IsRising Q → ((e : ℕ) → Contains P e → Contains Q e) → ((e : ℕ) → Contains Q e → Contains P e) → P ≡ Q
rising-unique [] [] rp rq pq qp = refl
rising-unique [] (y ∷ Q) rp rq pq qp = absurd (no_member y (qp y (Contains-here y y Q refl)))
rising-unique (x ∷ P) [] rp rq pq qp = absurd (no_member x (pq x (Contains-here x x P refl)))
rising-unique (x ∷ P) (y ∷ Q) rp rq pq qp =
    let one : x ≡ y = omega (arith, first_le y Q rq x (pq x (Contains-here x x P refl)), first_le x P rp y (qp y (Contains-here y y Q refl))) in
    ap₂ (λ z R. z ∷ R) one
    (rising-unique P Q (rest_rises x P rp) (rest_rises y Q rq) (inside_rest x y P Q one rp pq) (inside_rest y x Q P (sym one) rq qp))

-- a rising list of numbers below n is the filter of these by membership
pub rising-kept : (P : List ℕ) (n : ℕ) → IsRising P → ((e : ℕ) → Contains P e → e < n) → P ≡ kept (is_in P) n
rising-kept P n rising below =
    rising-unique P (kept (is_in P) n) rising (kept-rises (is_in P) n) (λ e m. kept_member (is_in P) n e (below e m) (is_in-member P e m))
    (λ e m. is_in-true P e (kept_passes (is_in P) n e m))
