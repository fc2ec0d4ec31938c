-- The lines of bytes that come one piece after another.
use Rattle.std.proofs.Common.{◌≡◌, ◌≤◌, inl, inr, ℕ, ◌+◌, All, subst, true, false, List, [], ◌∷◌, ◌++◌, length, drop, get_or, refl, sym, ap, ◌∙◌, arith, append_assoc, length-append}
use Rattle.std.specs.List.{slice_split, onto_first}
use Rattle.std.proofs.lemmas.Bool.{cases_Bool}
use Rattle.std.proofs.lemmas.List.Elements.{All-cons, All-head, All-nil, All-tail}
use Rattle.std.proofs.lemmas.List.Splits.{slice_split-cons_yes, slice_split-cons_no, length-slice_split}
use Rattle.rapid_text.specs.Reading.{is_line_feed}

-- there is a first line
parts_of : (text : List ℕ) → (first : List ℕ) × (others : List (List ℕ)) × (slice_split is_line_feed text ≡ first ∷ others)
parts_of text = from (slice_split is_line_feed text) refl
  where
    from : (parts : List (List ℕ)) → slice_split is_line_feed text ≡ parts → (first : List ℕ) × (others : List (List ℕ)) × (slice_split is_line_feed text ≡ first ∷ others)
    from [] is = absurd (omega (arith, ap length is, length-slice_split is_line_feed text))
    from (first ∷ others) is = (first, others, is)

-- the lines before a line feed, and those behind it
pub split-feed : (front rest : List ℕ) → slice_split is_line_feed (front ++ 10 ∷ rest) ≡ slice_split is_line_feed front ++ slice_split is_line_feed rest
split-feed [] rest = slice_split-cons_yes is_line_feed 10 rest refl
split-feed (b ∷ front) rest = elim (cases_Bool (is_line_feed b)) [
  | inl ends ↦
      slice_split-cons_yes is_line_feed b (front ++ 10 ∷ rest) ends
      ∙ ap (λ (ls : List (List ℕ)). [] ∷ ls) (split-feed front rest)
      ∙ ap (λ (ls : List (List ℕ)). ls ++ slice_split is_line_feed rest) (sym (slice_split-cons_yes is_line_feed b front ends))
  | inr other ↦
      let parts = parts_of front in
      slice_split-cons_no is_line_feed b (front ++ 10 ∷ rest) other
      ∙ ap (onto_first b) (split-feed front rest ∙ ap (λ (ls : List (List ℕ)). ls ++ slice_split is_line_feed rest) parts.2)
      ∙ ap (λ (ls : List (List ℕ)). onto_first b ls ++ slice_split is_line_feed rest) (sym parts.2)
      ∙ ap (λ (ls : List (List ℕ)). ls ++ slice_split is_line_feed rest) (sym (slice_split-cons_no is_line_feed b front other))
]

-- bytes that go on with whole lines, and what stands behind them
pub behind_feed : (begun bytes lines rest front : List ℕ) → bytes ≡ lines ++ 10 ∷ rest → front ≡ begun ++ lines → begun ++ bytes ≡ front ++ 10 ∷ rest
behind_feed begun bytes lines rest front is joined = ap (λ (t : List ℕ). begun ++ t) is ∙ sym (append_assoc begun lines (10 ∷ rest)) ∙ ap (λ (t : List ℕ). t ++ 10 ∷ rest) (sym joined)

abbrev first_of : List (List ℕ) → List ℕ
first_of ls = get_or ls 0 []

-- bytes behind the last line, which goes on with them
pub split-more : (bytes more : List ℕ) (lines : List (List ℕ)) (last : List ℕ) → slice_split is_line_feed bytes ≡ lines ++ last ∷ [] → slice_split is_line_feed (bytes ++ more) ≡ lines ++ slice_split is_line_feed (last ++ more)
split-more [] more [] last is = ap (λ (l : List ℕ). slice_split is_line_feed (l ++ more)) (ap first_of is)
split-more [] more (x ∷ lines) last is = absurd (omega (arith, ap length is, length-append lines (last ∷ [])))
split-more (b ∷ bytes) more lines last is = elim (cases_Bool (is_line_feed b)) [
  | inl ends ↦ ended (split-more bytes more) ends lines (sym (slice_split-cons_yes is_line_feed b bytes ends) ∙ is)
  | inr other ↦
      let parts = parts_of bytes in
      onto (split-more bytes more) other parts.0 parts.1 parts.2 lines (sym (ap (onto_first b) parts.2) ∙ sym (slice_split-cons_no is_line_feed b bytes other) ∙ is)
]
  where
    GoesOn : List (List ℕ) → List ℕ → Type 0
    GoesOn ls l = slice_split is_line_feed bytes ≡ ls ++ l ∷ [] → slice_split is_line_feed (bytes ++ more) ≡ ls ++ slice_split is_line_feed (l ++ more)

    ended : ((ls : List (List ℕ)) (l : List ℕ) → GoesOn ls l) → is_line_feed b ≡ true → (ls : List (List ℕ)) → [] ∷ slice_split is_line_feed bytes ≡ ls ++ last ∷ []
        → slice_split is_line_feed (b ∷ (bytes ++ more)) ≡ ls ++ slice_split is_line_feed (last ++ more)
    ended behind ends [] e = absurd (omega (arith, ap length e, length-slice_split is_line_feed bytes))
    ended behind ends (x ∷ ls) e =
        slice_split-cons_yes is_line_feed b (bytes ++ more) ends
        ∙ ap (λ (l : List (List ℕ)). [] ∷ l) (behind ls last (ap (drop 1) e))
        ∙ ap (λ (l : List ℕ). l ∷ (ls ++ slice_split is_line_feed (last ++ more))) (ap first_of e)

    onto : ((ls : List (List ℕ)) (l : List ℕ) → GoesOn ls l) → is_line_feed b ≡ false → (first : List ℕ) (others : List (List ℕ)) → slice_split is_line_feed bytes ≡ first ∷ others
        → (ls : List (List ℕ)) → (b ∷ first) ∷ others ≡ ls ++ last ∷ [] → slice_split is_line_feed (b ∷ (bytes ++ more)) ≡ ls ++ slice_split is_line_feed (last ++ more)
    onto behind other first others parts [] e =
        slice_split-cons_no is_line_feed b (bytes ++ more) other
        ∙ ap (onto_first b) (behind [] first (parts ∙ ap (λ (os : List (List ℕ)). first ∷ os) (ap (drop 1) e)))
        ∙ sym (slice_split-cons_no is_line_feed b (first ++ more) other)
        ∙ ap (λ (l : List ℕ). slice_split is_line_feed (l ++ more)) (ap first_of e)
    onto behind other first others parts (x ∷ ls) e =
        slice_split-cons_no is_line_feed b (bytes ++ more) other
        ∙ ap (onto_first b) (behind (first ∷ ls) last (parts ∙ ap (λ (os : List (List ℕ)). first ∷ os) (ap (drop 1) e)))
        ∙ ap (λ (l : List ℕ). l ∷ (ls ++ slice_split is_line_feed (last ++ more))) (ap first_of e)

longer : (n m : ℕ) (parts : List (List ℕ)) → n ≤ m → All (λ l. length l ≤ n) parts → All (λ l. length l ≤ m) parts
longer n m parts more all k d lt = omega (arith, more, all k d lt)

onto_short : (b n m : ℕ) (parts : List (List ℕ)) → n + 1 ≤ m → All (λ l. length l ≤ n) parts → All (λ l. length l ≤ m) (onto_first b parts)
onto_short b n m [] more short = All-cons (λ l. length l ≤ m) (b ∷ []) [] (omega (arith, more)) (All-nil (λ l. length l ≤ m))
onto_short b n m (part ∷ parts) more short =
    All-cons (λ l. length l ≤ m) (b ∷ part) parts (omega (arith, more, All-head (λ l. length l ≤ n) part parts short)) (longer n m parts (omega (arith, more)) (All-tail (λ l. length l ≤ n) part parts short))

-- a line is no longer than the text
lines_short : (bytes : List ℕ) → All (λ l. length l ≤ length bytes) (slice_split is_line_feed bytes)
lines_short [] = All-cons (λ l. length l ≤ 0) [] [] (omega arith) (All-nil (λ l. length l ≤ 0))
lines_short (b ∷ bytes) = elim (cases_Bool (is_line_feed b)) [
  | inl ends ↦
      subst Short (sym (slice_split-cons_yes is_line_feed b bytes ends))
      (All-cons (λ l. length l ≤ length (b ∷ bytes)) [] (slice_split is_line_feed bytes) (omega arith) (longer (length bytes) (length (b ∷ bytes)) (slice_split is_line_feed bytes) (omega arith) (lines_short bytes)))
  | inr other ↦ subst Short (sym (slice_split-cons_no is_line_feed b bytes other)) (onto_short b (length bytes) (length (b ∷ bytes)) (slice_split is_line_feed bytes) (omega arith) (lines_short bytes))
]
  where
    Short : List (List ℕ) → Type 0
    Short = All (λ l. length l ≤ length (b ∷ bytes))

pub last_short : (bytes : List ℕ) (lines : List (List ℕ)) (last : List ℕ) → slice_split is_line_feed bytes ≡ lines ++ last ∷ [] → length last ≤ length bytes
last_short bytes lines last is =
    let all : All (λ l. length l ≤ length bytes) (lines ++ last ∷ []) = subst (All (λ l. length l ≤ length bytes)) is (lines_short bytes) in
    All-head (λ l. length l ≤ length bytes) last [] (behind lines all)
  where
    behind : (ls : List (List ℕ)) → All (λ l. length l ≤ length bytes) (ls ++ last ∷ []) → All (λ l. length l ≤ length bytes) (last ∷ [])
    behind [] all = all
    behind (l ∷ ls) all = behind ls (All-tail (λ k. length k ≤ length bytes) l (ls ++ last ∷ []) all)
