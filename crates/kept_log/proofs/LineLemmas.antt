-- Lines that count, and what stands behind them.
use Rattle.std.proofs.Common.{◌≡◌, ℕ, zero, suc, ◌+◌, ◌-◌, ◌<◌, ◌≤◌, Bool, true, false, true≢false, List, [], ◌∷◌, ◌++◌, Option, None, Some, length, take, drop, get_or, refl, sym, ap, ◌∙◌, arith, inl, inr, All, subst, append_assoc, length-append, length-take, map, cond}
use Rattle.std.proofs.lemmas.Bool.{cases_Bool}
use Rattle.std.specs.Bool.{IsTrue}
use Rattle.std.specs.Option.{is_none}
use Rattle.std.specs.Prelude.{◌↔◌}
use Rattle.std.proofs.lemmas.Grind.{common_steps, get_or_default_zero, flat_map-append}
use Rattle.std.proofs.lemmas.List.{take_more, get_or-take, take_rest, take-append-drop, append-nil, take-take, take_at, length-take-le}
use Rattle.std.proofs.lemmas.List.Elements.{All-append, All-cons, All-nil}
use Rattle.std.proofs.lemmas.List.Splits.{slice_split_at, slice_split_none, slice_split-cons_yes, slice_split-cons_no, length-slice_split}
use Rattle.std.proofs.lemmas.List.Sums.{take_while-cons}
use Rattle.std.proofs.lemmas.Bool.Decides.{nat_tests}
use Rattle.std.specs.List.{slice_split, onto_first, take_while}
use Rattle.std.proofs.Math.Seq.{take-add}
use Rattle.memchr.specs.Find.{IsFirstByte, is_byte}
use Rattle.kept_log.specs.Lines.{IsLine, IsEnd, EndsAt, IsWhole, is_line_feed, is_open, line_text, lines_text, kept_lines, whole_lines, but_last}

none_within : (text : List ℕ) (k : ℕ) → ¬ (is_line_feed (get_or text k 0) ≡ true) → is_line_feed (get_or text k 0) ≡ false
none_within text k not_so = elim (cases_Bool (is_line_feed (get_or text k 0))) [ inl y ↦ absurd (not_so y) | inr n ↦ n ]

-- what stands before the first line feed, and with it
pub first_line : (text : List ℕ) (len : ℕ) → IsFirstByte (is_byte 10) text (Some len) → IsLine (take len text) × (take (len + 1) text ≡ take len text ++ 10 ∷ [])
first_line text len first =
    let lt : len < length text = first.0.high in
    let feed : get_or text len 0 ≡ 10 = grind (arith, common_steps, first.1) in (
      λ k d within.
          let below : k < len = omega (arith, length-take len text) in
          let same : get_or (take len text) k d ≡ get_or text k 0 = get_or-take len text k d below ∙ get_or_default_zero text k d (omega arith) in
          ap is_line_feed same ∙ none_within text k (first.0.before k (omega arith) below),
      take_more text len 0 lt ∙ ap (λ (b : ℕ). take len text ++ b ∷ []) feed,
    )

-- a text without a line feed
pub no_feed : (text : List ℕ) → IsFirstByte (is_byte 10) text None → IsLine text
no_feed text none = λ k d within. ap is_line_feed (get_or_default_zero text k d within) ∙ none_within text k (none k (omega arith) within)

pub is_line_by : (text : List ℕ) (r : Option ℕ) → IsFirstByte (is_byte 10) text r → IsTrue (is_none r) ↔ IsLine text
is_line_by text None first = (λ _. no_feed text first, λ _. refl)
is_line_by text (Some k) first = (λ is. absurd (true≢false (sym is)), λ line. absurd (true≢false (sym first.1 ∙ line k 0 first.0.high)))

-- an open gate, and a line with its end
pub open_line : (text : List ℕ) (len : ℕ) → 1 ≤ length text → get_or text 0 0 ≡ 32 → IsFirstByte (is_byte 10) (take (length text - 1) (drop 1 text)) (Some len)
    → (line : List ℕ) × IsLine line × (take (len + 2) text ≡ line_text line)
open_line [] len some gate first = absurd (omega arith)
open_line (b ∷ rest) len some gate first =
    let line = first_line rest len (subst (λ t. IsFirstByte (is_byte 10) t (Some len)) (take_rest (b ∷ rest) 1) first) in (
      take len rest,
      line.0,
      ap (λ (n : ℕ). take n (b ∷ rest)) (let e : len + 2 ≡ suc (len + 1) = omega arith in e) ∙ (λ i. gate i ∷ line.1 i),
    )

lines_text-one : (line : List ℕ) → lines_text (line ∷ []) ≡ line_text line
lines_text-one line = append-nil (line_text line)

-- one line more
pub lines_more : (text : List ℕ) (end len : ℕ) → (lines : List (List ℕ)) × All IsLine lines × (take end text ≡ lines_text lines)
    → (line : List ℕ) × IsLine line × (take len (drop end text) ≡ line_text line)
    → (lines : List (List ℕ)) × All IsLine lines × (take (end + len) text ≡ lines_text lines)
lines_more text end len so_far next = (
  so_far.0 ++ next.0 ∷ [],
  All-append IsLine so_far.0 (next.0 ∷ []) so_far.1 (All-one next.0 next.1),
  take-add end len text ∙ (λ i. so_far.2 i ++ next.2 i) ∙ ap (λ (t : List ℕ). lines_text so_far.0 ++ t) (sym (lines_text-one next.0)) ∙ sym (flat_map-append line_text so_far.0 (next.0 ∷ [])),
)
  where
    All-one : (line : List ℕ) → IsLine line → All IsLine (line ∷ [])
    All-one line is zero d lt = is
    All-one line is (suc k) d lt = absurd (omega arith)

-- a text has at least one part
parts_of : (text : List ℕ) → (first : List ℕ) × (others : List (List ℕ)) × (slice_split is_line_feed text ≡ first ∷ others)
parts_of text = from (slice_split is_line_feed text) refl
  where
    from : (parts : List (List ℕ)) → slice_split is_line_feed text ≡ parts → (first : List ℕ) × (others : List (List ℕ)) × (slice_split is_line_feed text ≡ first ∷ others)
    from [] is = absurd (omega (arith, ap length is, length-slice_split is_line_feed text))
    from (first ∷ others) is = (first, others, is)

-- the first line counts, and then what counts behind it
kept-line_text : (line rest : List ℕ) → IsLine line → kept_lines (line_text line ++ rest) ≡ line ∷ kept_lines rest
kept-line_text line rest is =
    let parts = parts_of rest in
    let whole : line_text line ++ rest ≡ (32 ∷ line) ++ 10 ∷ rest = ap (λ (t : List ℕ). 32 ∷ t) (append_assoc line (10 ∷ []) rest) in
    let split : slice_split is_line_feed (line_text line ++ rest) ≡ (32 ∷ line) ∷ slice_split is_line_feed rest =
    ap (slice_split is_line_feed) whole ∙ slice_split_at is_line_feed (32 ∷ line) 10 rest (gated line is) refl in
    let lines : whole_lines (line_text line ++ rest) ≡ (32 ∷ line) ∷ whole_lines rest =
    ap but_last (split ∙ ap (λ (ps : List (List ℕ)). (32 ∷ line) ∷ ps) parts.2) ∙ ap (λ (ps : List (List ℕ)). (32 ∷ line) ∷ but_last ps) (sym parts.2) in
    ap (λ (ls : List (List ℕ)). map (drop 1) (take_while is_open ls)) lines ∙ ap (map (drop 1)) (take_while-cons is_open (32 ∷ line) (whole_lines rest))
  where
    gated : (line : List ℕ) → IsLine line → All (λ b. is_line_feed b ≡ false) (32 ∷ line)
    gated line is zero d lt = refl
    gated line is (suc k) d lt = is k d (omega arith)

-- what a text begins with is its first line that counts
pub kept-first : (text line : List ℕ) (len : ℕ) → IsLine line → take len text ≡ line_text line → kept_lines text ≡ line ∷ kept_lines (drop len text)
kept-first text line len is begins =
    ap kept_lines (sym (take-append-drop len text) ∙ ap (λ (t : List ℕ). t ++ drop len text) begins) ∙ kept-line_text line (drop len text) is

-- the line within its gate and its end
pub within-line_text : (text line : List ℕ) (len : ℕ) → len ≤ length text → take len text ≡ line_text line → take (len - 1 - 1) (drop 1 text) ≡ line
within-line_text [] line zero within begins = absurd (omega (arith, ap length begins))
within-line_text [] line (suc n) within begins = absurd (omega (arith, within))
within-line_text (b ∷ rest) line zero within begins = absurd (omega (arith, ap length begins))
within-line_text (b ∷ rest) line (suc n) within begins =
    let behind : take n rest ≡ line ++ 10 ∷ [] = ap (drop 1) begins in
    let size : n ≡ length line + 1 = omega (arith, length-take-le n rest (omega (arith, within)), ap length behind, length-append line (10 ∷ [])) in
    let short : suc n - 1 - 1 ≡ length line = omega (arith, size) in
    ap (λ (k : ℕ). take k rest) short
    ∙ sym (take-take (length line) n rest (omega (arith, size)))
    ∙ ap (take (length line)) behind
    ∙ take_at line (10 ∷ []) (length line) refl

-- lines that count, and then what counts behind them
pub kept-lines_text : (lines : List (List ℕ)) (rest : List ℕ) → All IsLine lines → kept_lines (lines_text lines ++ rest) ≡ lines ++ kept_lines rest
kept-lines_text [] rest are = refl
kept-lines_text (line ∷ lines) rest are =
    ap kept_lines (append_assoc (line_text line) (lines_text lines) rest)
    ∙ kept-line_text line (lines_text lines ++ rest) (are zero [] (omega arith))
    ∙ ap (λ (ls : List (List ℕ)). line ∷ ls) (kept-lines_text lines rest (λ k d lt. are (suc k) d (omega arith)))

-- behind an end no line counts
pub kept-end : (text : List ℕ) → IsEnd text → kept_lines text ≡ []
kept-end text (inr none) = ap (λ (ps : List (List ℕ)). map (drop 1) (take_while is_open (but_last ps))) (slice_split_none is_line_feed text none)
kept-end [] (inl shut) = refl
kept-end (gate ∷ text) (inl shut) = elim (cases_Bool (is_line_feed gate)) [
  | inl y ↦
      let parts = parts_of text in
      ap (λ (ps : List (List ℕ)). map (drop 1) (take_while is_open (but_last ps))) (slice_split-cons_yes is_line_feed gate text y ∙ ap (λ (ps : List (List ℕ)). [] ∷ ps) parts.2)
  | inr n ↦
      let parts = parts_of text in
      ap (λ (ps : List (List ℕ)). map (drop 1) (take_while is_open (but_last ps))) (slice_split-cons_no is_line_feed gate text n ∙ ap (onto_first gate) parts.2) ∙ first_shut parts.0 parts.1
]
  where
    first_shut : (first : List ℕ) (others : List (List ℕ)) → map (drop 1) (take_while is_open (but_last ((gate ∷ first) ∷ others))) ≡ []
    first_shut first [] = refl
    first_shut first (next ∷ others) = ap (map (drop 1)) (take_while-cons is_open (gate ∷ first) (but_last (next ∷ others)) ∙ ap (λ (b : Bool). cond b ((gate ∷ first) ∷ take_while is_open (but_last (next ∷ others))) []) shut)

-- nor in a front of an end
pub IsEnd-take : (n : ℕ) (text : List ℕ) → IsEnd text → IsEnd (take n text)
IsEnd-take n text (inr none) = inr (λ k d lt. let e : k < n = omega (arith, length-take n text) in ap is_line_feed (get_or-take n text k d e) ∙ none k d (omega (arith, length-take n text)))
IsEnd-take zero text (inl shut) = inl refl
IsEnd-take (suc n) [] (inl shut) = inl refl
IsEnd-take (suc n) (gate ∷ text) (inl shut) = inl shut

-- one byte is no line
pub IsEnd-short : (text : List ℕ) → length text ≤ 1 → IsEnd text
IsEnd-short [] short = inl refl
IsEnd-short (b ∷ c ∷ text) short = absurd (omega arith)
IsEnd-short (b ∷ []) short = elim (cases_Bool (is_open (b ∷ []))) [
  | inl y ↦ inr (one y)
  | inr n ↦ inl n
]
  where
    one : is_open (b ∷ []) ≡ true → All (λ x. is_line_feed x ≡ false) (b ∷ [])
    one y zero d lt = grind (arith, nat_tests)
    one y (suc k) d lt = absurd (omega arith)

-- a closed gate is an end, whatever stands behind it
pub IsEnd-closed : (rest : List ℕ) → IsEnd (33 ∷ rest)
IsEnd-closed rest = inl refl

-- the lines that count are those up to the end
pub kept-EndsAt : (text : List ℕ) (end : ℕ) (ends : EndsAt text end) → kept_lines text ≡ ends.lines
kept-EndsAt text end ends =
    ap kept_lines (sym (take-append-drop end text) ∙ ap (λ (t : List ℕ). t ++ drop end text) ends.front)
    ∙ kept-lines_text ends.lines (drop end text) ends.are_lines
    ∙ ap (λ (ls : List (List ℕ)). ends.lines ++ ls) (kept-end (drop end text) ends.back)
    ∙ append-nil ends.lines

-- a text of lines, and one line more
pub kept-whole : (lines : List (List ℕ)) → All IsLine lines → kept_lines (lines_text lines) ≡ lines
kept-whole lines are = ap kept_lines (sym (append-nil (lines_text lines))) ∙ kept-lines_text lines [] are ∙ append-nil lines

module _ (old line new : List ℕ) (was : IsWhole old) (is : IsLine line) (grown : new ≡ old ++ line_text line) where
  abbrev after : List (List ℕ)
  after = kept_lines old ++ line ∷ []

  text_is : new ≡ lines_text after
  text_is =
      grown ∙ ap (λ (t : List ℕ). t ++ line_text line) was.whole ∙ ap (λ (t : List ℕ). lines_text (kept_lines old) ++ t) (sym (lines_text-one line))
      ∙ sym (flat_map-append line_text (kept_lines old) (line ∷ []))

  are : All IsLine after
  are = All-append IsLine (kept_lines old) (line ∷ []) was.are_lines (All-cons IsLine line [] is (All-nil IsLine))

  pub kept-push : kept_lines new ≡ after
  kept-push = ap kept_lines text_is ∙ kept-whole after are

  pub IsWhole-push : IsWhole new
  IsWhole-push = record { are_lines = subst (All IsLine) (sym kept-push) are; whole = text_is ∙ ap lines_text (sym kept-push) }
