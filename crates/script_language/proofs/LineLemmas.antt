-- The first line of a text, by the first place of a byte.
use Rattle.std.proofs.Common.{◌≡◌, ℕ, zero, suc, ◌+◌, ◌<◌, Bool, true, false, List, [], ◌∷◌, length, take, drop, get_or, Option, Some, None, refl, sym, subst, arith, inl, inr}
use Rattle.std.specs.List.{slice_split, position_or_len, join_with_byte}
use denote.Ref.{Bor}
use Rattle.std.specs.Prelude.{unwrap_or}
use Rattle.script_language.specs.LinesLeft.{lines_left}
use Rattle.std.proofs.lemmas.Bool.{cases_Bool}
use Rattle.std.proofs.lemmas.List.Sums.{position_or_len_is}
use Rattle.std.proofs.lemmas.List.Splits.{slice_split_first, slice_split_none, join_with_byte-slice_split}
use Rattle.memchr.specs.Find.{IsFirstByte}

-- within the list the default is not read
get_or_default : (xs : List ℕ) (k d : ℕ) → k < length xs → get_or xs k 0 ≡ get_or xs k d
get_or_default [] k d lt = absurd (omega (arith, lt))
get_or_default (x ∷ xs) zero d lt = refl
get_or_default (x ∷ xs) (suc k) d lt = get_or_default xs k d (omega (arith, lt))

module _ (test : ℕ → Bool) (text : List ℕ) where
  fails : (k : ℕ) → ¬ (test (get_or text k 0) ≡ true) → test (get_or text k 0) ≡ false
  fails k not_so = elim (cases_Bool (test (get_or text k 0))) [ inl y ↦ absurd (not_so y) | inr n ↦ n ]

  -- the text is cut at the first place of the byte
  pub cut_at_some : (at : ℕ) → IsFirstByte test text (Some at) → slice_split test text ≡ take at text ∷ slice_split test (drop (at + 1) text)
  cut_at_some at h =
      let first = h.0 in
      let within : at < length text = first.high in
      let place : position_or_len test text ≡ at = position_or_len_is test text at 0 (omega arith) (λ j j_at. fails j (first.before j (omega arith) j_at)) (λ _. h.1) in
      subst (λ n. slice_split test text ≡ take n text ∷ slice_split test (drop (n + 1) text)) place (slice_split_first test text 0 (omega arith))

  -- a text without the byte is one line
  pub cut_at_none : IsFirstByte test text None → slice_split test text ≡ text ∷ []
  cut_at_none h = slice_split_none test text (λ k d k_lt. subst (λ b. test b ≡ false) (get_or_default text k d k_lt) (fails k (h k (omega arith) k_lt)))

-- what is left as one text gives the lines that are left
pub text_left : (rest : Option (Bor (List ℕ))) (other : Bor (List ℕ)) → other.now ≡ [] → (unwrap_or rest other).now ≡ join_with_byte 10 (lines_left rest)
text_left None other e = e
text_left (Some text) other e = sym (join_with_byte-slice_split 10 text.now)
