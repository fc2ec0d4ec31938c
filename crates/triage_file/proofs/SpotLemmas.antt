-- One line more without the key.
use Rattle.std.proofs.Common.{◌≡◌, ◌≢◌, ◌⊎◌, ℕ, ◌<◌, ◌≤◌, ◌+◌, List, true, false, arith, refl, inl, inr, subst, sym, length}
use Rattle.std.proofs.lemmas.Bool.{cases_lt}
use Rattle.triage_file.specs.Spots.{is_header_at, is_key_at, is_name_at, IsBarren, IsNameless}

last_or_before : (m n : ℕ) → m < n + 1 → (m < n) ⊎ (m ≡ n)
last_or_before m n lt = elim (cases_lt m n) [ inl below ↦ inl below | inr above ↦ inr (omega arith) ]

pub barren_more :
    (key text : List ℕ) (start n : ℕ) → IsBarren key text start n → is_key_at key text n ≡ false → is_header_at text n ≡ false → IsBarren key text start (n + 1)
barren_more key text start n before no_key no_header m low high = elim (last_or_before m n high) [
  | inl lt ↦ before m low lt
  | inr same ↦ subst (λ k. (is_key_at key text k ≡ false) × (is_header_at text k ≡ false)) (sym same) (no_key, no_header)
]

pub nameless_more : (key text : List ℕ) (n : ℕ) → IsNameless key text n → is_name_at key text n ≡ false → IsNameless key text (n + 1)
nameless_more key text n before none m high = elim (last_or_before m n high) [
  | inl lt ↦ before m lt
  | inr same ↦ subst (λ k. is_name_at key text k ≡ false) (sym same) none
]

pub nameless_all : (key text : List ℕ) (n : ℕ) → length text ≤ n → IsNameless key text n → IsNameless key text (length text)
nameless_all key text n all before m lt = before m (omega (arith, lt, all))
