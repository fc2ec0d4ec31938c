-- Where a text is cut: at the first byte that passes a test.
use Rattle.std.proofs.Common.{◌≡◌, ℕ, ◌<◌, ◌+◌, Bool, true, false, List, [], ◌∷◌, length, take, drop, get_or, sym, ap, ◌∙◌, arith, le_refl}
use Rattle.std.specs.List.{position_or_len, list_any, before_first, after_first, slice_split}
use Rattle.std.proofs.lemmas.Bool.{false≢true}
use Rattle.std.proofs.lemmas.List.{get_or_default, take_all, drop_all}
use Rattle.std.proofs.lemmas.List.Sums.{position_or_len_is}
use Rattle.std.proofs.lemmas.List.Folds.{list_any_none, list_any_at}
use Rattle.std.proofs.lemmas.List.Splits.{slice_split_none, slice_split_first}
use Rattle.std.specs.Prelude.{Some, None}
use Rattle.rapid_text.proofs.Positions.{any-position, none-position, not_true}
use Rattle.memchr.specs.Find.{IsFirstByte}

module _ (test : ℕ → Bool) (hay : List ℕ) where
  -- where no byte was found, none passes
  pub none-list_any : IsFirstByte test hay None → list_any test hay ≡ false
  none-list_any h =
      list_any_none test hay (λ k d lt. ap test (get_or_default hay k d 0 lt) ∙ not_true (test (get_or hay k 0)) (h k (omega arith) lt))

  -- the byte that was found passes
  pub some-list_any : (k : ℕ) → IsFirstByte test hay (Some k) → list_any test hay ≡ true
  some-list_any k h = list_any_at test hay k 0 h.0.high h.1

  -- the first byte that passes stands where it was found
  pub some-position : (k : ℕ) → IsFirstByte test hay (Some k) → position_or_len test hay ≡ k
  some-position k h =
      let first = h.0 in
      let lt : k < length hay = first.high in
      position_or_len_is test hay k 0 (omega arith)
      (λ j jk. not_true (test (get_or hay j 0)) (first.before j (omega arith) jk))
      (λ _. h.1)

  -- where no byte passes, all stands before the first
  pub none-before : list_any test hay ≡ false → before_first test hay ≡ hay
  none-before none = ap (λ n. take n hay) (none-position test hay 0 none) ∙ take_all (length hay) hay (le_refl (length hay))

  pub none-after : list_any test hay ≡ false → after_first test hay ≡ []
  none-after none = ap (λ n. drop (n + 1) hay) (none-position test hay 0 none) ∙ drop_all (length hay + 1) hay (omega arith)

  -- the first line of lines, where there is an end
  pub some-lines : list_any test hay ≡ true → slice_split test hay ≡ before_first test hay ∷ slice_split test (after_first test hay)
  some-lines is = slice_split_first test hay 0 (any-position test hay 0 is)

  -- a text with no end of line is one line
  pub none-lines : list_any test hay ≡ false → slice_split test hay ≡ hay ∷ []
  none-lines none =
      slice_split_none test hay (λ k d lt. ap test (get_or_default hay k d 0 lt) ∙ not_true (test (get_or hay k 0)) (λ yes. false≢true (sym none ∙ list_any_at test hay k 0 lt yes)))
