-- The lines of a merged report.
use Rattle.std.proofs.Common.{◌≡◌, ℕ, suc, ◌+◌, ◌-◌, ◌^◌, ◌<◌, ◌≤◌, nat_eq, cond, Bool, true, false, List, [], ◌∷◌, ◌++◌, length, map, drop, take, All, Vec, Option, None, Some, IsUtf8, codes, refl, sym, ap, ◌∙◌, subst, arith}
use Rattle.std.specs.declared.alloc.Global.{Global}
use Rattle.std.specs.Str.Lossy.{utf8_lossy}
use Rattle.std.proofs.lemmas.Bool.{cond_both}
use Rattle.std.proofs.lemmas.List.{length-append}
use Rattle.std.proofs.lemmas.List.Elements.{All-append, All-cons, All-head, All-nil, All-tail}
use Rattle.std.proofs.Math.Seq.{take-add}
use Rattle.json.proofs.Printed.Utf8.{IsUtf8-are_ascii}
use Rattle.serde_json.specs.Data.{Data}
use Rattle.serde_json.proofs.Numbers.{number_of-decimal}
use Rattle.race_parts.specs.Objects.{json_line, merged_lines, merged_object, news_count, pair_line, pair_lines, pair_object, pair_object_at, part_lines, part_object, verdict_word}
use Rattle.race_parts.specs.Texts.{is_new, one_if, run_count}
use Rattle.race_parts.specs.Cells.{is_same}
use Rattle.race_parts.specs.ReadBack.{IsSmall}
use Rattle.race_parts.specs.declared.cells.Cell.{Cell}
use Rattle.race_parts.specs.declared.parts.Part.{Part}
use Rattle.race_parts.proofs.FrontLemmas.{AreFrom, from-append}
use Rattle.race_parts.proofs.PlainLemmas.{ArePlain, IsLineOf, lossy_utf8, plain_line, with_number, with_text}

abbrev pub Entries : Type 0
Entries = List (Vec ℕ Global × Part)

-- ---- the values of the lines

abbrev pub part_data : Vec ℕ Global × Part → Data
part_data e = part_object e.0.items e.1.text.items

abbrev pub pairs_data : ℕ → Option Cell → List Cell → List Data
pairs_data parts before [] = []
pairs_data parts before (c ∷ cs) = cond (is_new before c) (pair_object_at parts c (c ∷ cs) ∷ []) [] ++ pairs_data parts (Some c) cs

abbrev pub head_data : Entries → List Cell → Data
head_data es cells = merged_object (length es) (news_count None cells)

abbrev pub report_data : Entries → List Cell → List Data
report_data es cells = head_data es cells ∷ (map part_data es ++ pairs_data (length es) None cells)

-- ---- each line is read as its value

head_line : (parts pairs : ℕ) → parts < 2 ^ 64 → pairs < 2 ^ 64 → IsLineOf (merged_object parts pairs)
head_line parts pairs few less =
    plain_line _
    (with_text (codes "kind") (codes "merged") refl (IsUtf8-are_ascii (codes "merged") refl)
    (with_number (codes "pairs") pairs refl less
    (with_number (codes "parts") parts refl few
    (with_number (codes "version") 1 refl (omega arith) ArePlain.none))))
    (rw (number_of-decimal pairs less, number_of-decimal parts few, number_of-decimal 1 (omega arith)) refl)

part_line : (name text : List ℕ) → IsLineOf (part_object name text)
part_line name text =
    plain_line _
    (with_text (codes "kind") (codes "part") refl (IsUtf8-are_ascii (codes "part") refl)
    (with_text (codes "name") (utf8_lossy name) refl (lossy_utf8 name)
    (with_text (codes "text") (utf8_lossy text) refl (lossy_utf8 text) ArePlain.none)))
    refl

word_utf8 : (rank : ℕ) → IsUtf8 (verdict_word rank)
word_utf8 rank =
    cond_both (nat_eq rank 0) (codes "race") _ IsUtf8 (λ _. IsUtf8-are_ascii (codes "race") refl)
    (λ _. cond_both (nat_eq rank 1) (codes "undecided") (codes "apart") IsUtf8 (λ _. IsUtf8-are_ascii (codes "undecided") refl) (λ _. IsUtf8-are_ascii (codes "apart") refl))

pair_is_line : (c : Cell) (races undecided apart unmet : ℕ) → IsSmall c → races < 2 ^ 64 → undecided < 2 ^ 64 → apart < 2 ^ 64 → unmet < 2 ^ 64
    → IsLineOf (pair_object c races undecided apart unmet)
pair_is_line c races undecided apart unmet small fr fu fa fn =
    plain_line _
    (with_number (codes "apart") apart refl fa
    (with_number (codes "earlier") c.earlier refl small.earlier
    (with_number (codes "events") c.size refl small.size
    (with_text (codes "first") (utf8_lossy c.first.now) refl (lossy_utf8 c.first.now)
    (with_text (codes "kind") (codes "pair") refl (IsUtf8-are_ascii (codes "pair") refl)
    (with_number (codes "later") c.later refl small.later
    (with_text (codes "part") (utf8_lossy c.part.now) refl (lossy_utf8 c.part.now)
    (with_number (codes "race") races refl fr
    (with_text (codes "second") (utf8_lossy c.second.now) refl (lossy_utf8 c.second.now)
    (with_number (codes "undecided") undecided refl fu
    (with_number (codes "unmet") unmet refl fn
    (with_text (codes "verdict") (verdict_word c.rank) refl (word_utf8 c.rank) ArePlain.none))))))))))))
    (rw (number_of-decimal apart fa, number_of-decimal c.earlier small.earlier, number_of-decimal c.size small.size, number_of-decimal c.later small.later, number_of-decimal races fr, number_of-decimal undecided fu, number_of-decimal unmet fn) refl)

one_few : (b : Bool) → one_if b ≤ 1
one_few true = omega arith
one_few false = omega arith

run_few : (c : Cell) (rank : ℕ) (cs : List Cell) → run_count c rank cs ≤ length cs
run_few c rank [] = omega arith
run_few c rank (d ∷ ds) =
    cond_both (is_same c d) (one_if (nat_eq d.rank rank) + run_count c rank ds) 0 (λ n. n ≤ suc (length ds))
    (λ _. omega (arith, one_few (nat_eq d.rank rank), run_few c rank ds)) (λ _. omega arith)

-- ---- all lines

line_from : (d : Data) → IsLineOf d → AreFrom (json_line d) (d ∷ [])
line_from d line = AreFrom.first _ [] d [] line.free line.tells AreFrom.none

parts_from : (es : Entries) → AreFrom (part_lines es) (map part_data es)
parts_from [] = AreFrom.none
parts_from (e ∷ es) =
    from-append (json_line (part_data e)) (part_lines es) (part_data e ∷ []) (map part_data es)
    (line_from (part_data e) (part_line e.0.items e.1.text.items)) (parts_from es)

some_line : (b : Bool) (d : Data) → IsLineOf d → AreFrom (cond b (json_line d) []) (cond b (d ∷ []) [])
some_line true d line = line_from d line
some_line false d line = AreFrom.none

pairs_from : (parts : ℕ) (before : Option Cell) (cells : List Cell) → parts < 2 ^ 64 → length cells < 2 ^ 64 → All IsSmall cells
    → AreFrom (pair_lines parts before cells) (pairs_data parts before cells)
pairs_from parts before [] few less small = AreFrom.none
pairs_from parts before (c ∷ cs) few less small =
    let races = run_count c 0 (c ∷ cs) in
    let undecided = run_count c 1 (c ∷ cs) in
    let apart = run_count c 2 (c ∷ cs) in
    let line = pair_is_line c races undecided apart (parts - races - undecided - apart) (All-head IsSmall c cs small)
    (omega (arith, less, run_few c 0 (c ∷ cs))) (omega (arith, less, run_few c 1 (c ∷ cs))) (omega (arith, less, run_few c 2 (c ∷ cs))) (omega (arith, few)) in
    from-append (cond (is_new before c) (pair_line parts c (c ∷ cs)) []) (pair_lines parts (Some c) cs)
    (cond (is_new before c) (pair_object_at parts c (c ∷ cs) ∷ []) []) (pairs_data parts (Some c) cs)
    (some_line (is_new before c) (pair_object_at parts c (c ∷ cs)) line)
    (pairs_from parts (Some c) cs few (omega (arith, less)) (All-tail IsSmall c cs small))

pub news_few : (before : Option Cell) (cells : List Cell) → news_count before cells ≤ length cells
news_few before [] = omega arith
news_few before (c ∷ cs) = omega (arith, one_few (is_new before c), news_few (Some c) cs)

-- the numbers of a report fit 64 bits
pub record AreSmall (es : Entries) (cells : List Cell) : Type 0 where
  pub parts : length es < 2 ^ 64
  pub pairs : length cells < 2 ^ 64
  pub cells_are : All IsSmall cells

pub report_from : (es : Entries) (cells : List Cell) → AreSmall es cells → AreFrom (merged_lines es cells) (report_data es cells)
report_from es cells small =
    let head = head_line (length es) (news_count None cells) small.parts (omega (arith, small.pairs, news_few None cells)) in
    from-append (json_line (head_data es cells) ++ part_lines es) (pair_lines (length es) None cells)
    (head_data es cells ∷ map part_data es) (pairs_data (length es) None cells)
    (from-append (json_line (head_data es cells)) (part_lines es) (head_data es cells ∷ []) (map part_data es) (line_from (head_data es cells) head) (parts_from es))
    (pairs_from (length es) None cells small.parts small.pairs small.cells_are)

one_count : (b : Bool) (d : Data) → length (cond b (d ∷ []) []) ≡ one_if b
one_count true d = refl
one_count false d = refl

pub pairs_count : (parts : ℕ) (before : Option Cell) (cells : List Cell) → length (pairs_data parts before cells) ≡ news_count before cells
pairs_count parts before [] = refl
pairs_count parts before (c ∷ cs) =
    let d = pair_object_at parts c (c ∷ cs) in
    length-append (cond (is_new before c) (d ∷ []) []) (pairs_data parts (Some c) cs)
    ∙ ap (λ n. n + length (pairs_data parts (Some c) cs)) (one_count (is_new before c) d)
    ∙ ap (λ n. one_if (is_new before c) + n) (pairs_count parts (Some c) cs)

-- one cell more
pub small_more : (cells rest : List Cell) (at : ℕ) (c : Cell) → drop at cells ≡ c ∷ rest → All IsSmall (take at cells) → IsSmall c → All IsSmall (take (at + 1) cells)
small_more cells rest at c cut before small =
    subst (All IsSmall) (sym (take-add at 1 cells ∙ ap (λ (cs : List Cell). take at cells ++ take 1 cs) cut))
    (All-append IsSmall (take at cells) (c ∷ []) before (All-cons IsSmall c [] small (All-nil IsSmall)))
