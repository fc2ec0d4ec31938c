-- The last line of a text.
use Rattle.std.proofs.Common.{◌≡◌, ℕ, ◌+◌, ◌-◌, ◌<◌, ◌≤◌, ◌==◌, not, Bool, true, false, List, length, drop, take, slice_index, Some, None, refl, ap, sym, ◌∙◌, arith}
use Rattle.std.specs.List.{suffix_len}
use Rattle.std.proofs.lemmas.List.{length-drop, take_all}
use Rattle.std.proofs.lemmas.List.Sums.{suffix_len_is}
use Rattle.memchr.specs.Find.{is_byte, IsLastByte}
use Rattle.wholeness.specs.Marks.{last_line}

abbrev is_feed : ℕ → Bool
is_feed b = b == 10

differs : (b : Bool) → ¬ (b ≡ true) → not b ≡ true
differs true other = absurd (other refl)
differs false other = refl

module _ (text : List ℕ) where
  tail_len : (n : ℕ) → n ≤ length text → ((k : ℕ) → n ≤ k → k < length text → ¬ (is_feed (slice_index text k) ≡ true)) → (0 < n → is_feed (slice_index text (n - 1)) ≡ true)
      → suffix_len (λ b. not (is_feed b)) text ≡ length text - n
  tail_len n le others here =
      suffix_len_is (λ b. not (is_feed b)) text n 0 le (λ k low high. differs (is_feed (slice_index text k)) (others k low high)) (λ some. ap not (here some))

  pub last_line-some : (at : ℕ) → IsLastByte (is_byte 10) text (Some at) → take (length text - (at + 1)) (drop (at + 1) text) ≡ last_line text
  last_line-some at found =
      let len : suffix_len (λ b. not (is_feed b)) text ≡ length text - (at + 1) =
      tail_len (at + 1) (omega (arith, found.0.high)) found.0.after (λ some. ap (λ (n : ℕ). is_feed (slice_index text n)) (omega arith) ∙ found.1)
      in
      take_all (length text - (at + 1)) (drop (at + 1) text) (omega (arith, length-drop (at + 1) text)) ∙ ap (λ (n : ℕ). drop n text) (omega (arith, len, found.0.high))

  pub last_line-none : IsLastByte (is_byte 10) text None → text ≡ last_line text
  last_line-none none =
      let all : suffix_len (λ b. not (is_feed b)) text ≡ length text = tail_len 0 (omega arith) none (λ some. absurd (omega (arith, some))) ∙ omega arith in
      let nothing : length text - suffix_len (λ b. not (is_feed b)) text ≡ 0 = omega (arith, all) in
      sym (ap (λ (n : ℕ). drop n text) nothing)
