-- A cut at the last `#` of a name.
use Rattle.std.proofs.Common.{◌≡◌, ℕ, ◌+◌, ◌-◌, ◌<◌, ◌≤◌, ◌==◌, not, Bool, true, false, List, [], length, drop, take, slice_index, Some, None, refl, ap, sym, ◌∙◌, arith}
use Rattle.std.specs.List.{after_last, before_last, suffix_len}
use Rattle.std.proofs.lemmas.List.Sums.{suffix_len_is}
use Rattle.memchr.specs.Find.{is_byte, IsLastByte}

module _ (byte : ℕ) (xs : List ℕ) where
  abbrev is : ℕ → Bool
  is b = b == byte

  differs : (b : Bool) → ¬ (b ≡ true) → not b ≡ true
  differs true other = absurd (other refl)
  differs false other = refl

  tail_len : (n : ℕ) → n ≤ length xs → ((k : ℕ) → n ≤ k → k < length xs → ¬ (is (slice_index xs k) ≡ true)) → (0 < n → is (slice_index xs (n - 1)) ≡ true)
      → suffix_len (λ b. not (is b)) xs ≡ length xs - n
  tail_len n le others here = suffix_len_is (λ b. not (is b)) xs n 0 le (λ k low high. differs (is (slice_index xs k)) (others k low high)) (λ some. ap not (here some))

  module _ (at : ℕ) (found : IsLastByte (is_byte byte) xs (Some at)) where
    len : suffix_len (λ b. not (is b)) xs ≡ length xs - (at + 1)
    len = tail_len (at + 1) (omega (arith, found.0.high)) found.0.after (λ some. ap (λ (n : ℕ). is (slice_index xs n)) (omega arith) ∙ found.1)

    pub before-some : take at xs ≡ before_last is xs
    before-some = ap (λ (n : ℕ). take n xs) (omega (arith, len, found.0.high))

    pub after-some : drop (at + 1) xs ≡ after_last is xs
    after-some = ap (λ (n : ℕ). drop n xs) (omega (arith, len, found.0.high))

  module _ (none : IsLastByte (is_byte byte) xs None) where
    all : suffix_len (λ b. not (is b)) xs ≡ length xs
    all = tail_len 0 (omega arith) none (λ some. absurd (omega (arith, some))) ∙ omega arith

    pub before-none : [] ≡ before_last is xs
    before-none = let nothing : length xs - suffix_len (λ b. not (is b)) xs - 1 ≡ 0 = omega (arith, all) in sym (ap (λ (n : ℕ). take n xs) nothing)

    pub after-none : xs ≡ after_last is xs
    after-none = let nothing : length xs - suffix_len (λ b. not (is b)) xs ≡ 0 = omega (arith, all) in sym (ap (λ (n : ℕ). drop n xs) nothing)
