-- Equality of names, as a test and as a fact; how the bytes of a name lie in their place.
use Rattle.std.proofs.Common.{◌≡◌, ◌≢◌, ◌⊎◌, inl, inr, ℕ, Bool, true, false, List, refl}
use Rattle.std.specs.Str.{bytes_eq}
use Rattle.std.proofs.lemmas.Bool.Decides.{not_from_Decides}
use Rattle.std.proofs.lemmas.Slice.Eq.{bytes_eq-Decides}

pub eq-bytes : (x y : List ℕ) → x ≡ y → bytes_eq x y ≡ true
eq-bytes x y e = (bytes_eq-Decides x y).1 e

pub bytes-true : (x y : List ℕ) → bytes_eq x y ≡ true → x ≡ y
bytes-true x y e = (bytes_eq-Decides x y).0 e

pub bytes-false : (x y : List ℕ) → bytes_eq x y ≡ false → x ≢ y
bytes-false x y e = not_from_Decides (bytes_eq x y) (bytes_eq-Decides x y) e

pub bytes_tells : (x y : List ℕ) → ((bytes_eq x y ≡ true) × (x ≡ y)) ⊎ ((bytes_eq x y ≡ false) × (x ≢ y))
bytes_tells x y = by (bytes_eq x y) refl
  where
    by : (t : Bool) → bytes_eq x y ≡ t → ((bytes_eq x y ≡ true) × (x ≡ y)) ⊎ ((bytes_eq x y ≡ false) × (x ≢ y))
    by true e = inl (e, bytes-true x y e)
    by false e = inr (e, bytes-false x y e)
