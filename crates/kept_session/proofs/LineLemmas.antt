-- Lines have no end within: those of a text, and in the form in which the log keeps them.
use Rattle.std.proofs.Common.{◌≡◌, ℕ, zero, suc, ◌+◌, ◌-◌, ◌<◌, ◌^◌, false, List, [], ◌∷◌, ◌++◌, All, map, length, drop, refl, sym, subst, arith, inl, inr, codes, decimal}
use Rattle.std.specs.List.{slice_split, onto_first, prefix_len, suffix_len}
use Rattle.std.proofs.lemmas.Bool.{cases_Bool, ne_eqb}
use Rattle.std.proofs.lemmas.Fmt.{decimal-digits_of, decimal_digit}
use Rattle.std.specs.Int.Digits.{digits_of}
use Rattle.std.proofs.lemmas.List.Elements.{All-append, All-cons, All-head, All-tail, All-nil, All-take, All-drop}
use Rattle.std.proofs.lemmas.List.Splits.{slice_split-cons_yes, slice_split-cons_no}
use Rattle.rapid_text.specs.Reading.{is_blank, trimmed}
use Rattle.kept_log.specs.Lines.{IsLine, is_line_feed}

-- a byte that is no end
abbrev pub Within : ℕ → Type 0
Within b = is_line_feed b ≡ false

onto_line : (b : ℕ) (parts : List (List ℕ)) → Within b → All IsLine parts → All IsLine (onto_first b parts)
onto_line b [] other all = All-cons IsLine (b ∷ []) [] (All-cons Within b [] other (All-nil Within)) (All-nil IsLine)
onto_line b (part ∷ parts) other all = All-cons IsLine (b ∷ part) parts (All-cons Within b part other (All-head IsLine part parts all)) (All-tail IsLine part parts all)

-- the lines of a text
pub parts_lines : (text : List ℕ) → All IsLine (slice_split is_line_feed text)
parts_lines [] = All-cons IsLine [] [] (All-nil Within) (All-nil IsLine)
parts_lines (b ∷ text) = elim (cases_Bool (is_line_feed b)) [
  | inl ends ↦ subst (All IsLine) (sym (slice_split-cons_yes is_line_feed b text ends)) (All-cons IsLine [] (slice_split is_line_feed text) (All-nil Within) (parts_lines text))
  | inr other ↦ subst (All IsLine) (sym (slice_split-cons_no is_line_feed b text other)) (onto_line b (slice_split is_line_feed text) other (parts_lines text))
]

pub trimmed_line : (raw : List ℕ) → IsLine raw → IsLine (trimmed raw)
trimmed_line raw is =
    let rest = drop (prefix_len is_blank raw) raw in
    All-take Within (length rest - suffix_len is_blank rest) rest (All-drop Within (prefix_len is_blank raw) raw is)

digits_line : (ds : List ℕ) → IsLine (map (λ d. 48 + d) ds)
digits_line [] = All-nil Within
digits_line (d ∷ ds) = All-cons Within (48 + d) (map (λ e. 48 + e) ds) (ne_eqb (48 + d) 10 (λ e. omega (arith, e))) (digits_line ds)

-- a number in decimal digits
pub decimal_line : (n : ℕ) → n < 2 ^ 64 → IsLine (decimal n)
decimal_line zero small = subst IsLine (sym (decimal_digit 0 (omega arith))) (All-cons Within 48 [] refl (All-nil Within))
decimal_line (suc n) small = subst IsLine (sym (decimal-digits_of (suc n) (omega arith) small)) (digits_line (digits_of 10 (suc n)))

-- a number, a blank and words
pub behind_line : (client : ℕ) (words : List ℕ) → client < 2 ^ 64 → IsLine words → IsLine (decimal client ++ codes " " ++ words)
behind_line client words small is =
    All-append Within (decimal client ++ codes " ") words (All-append Within (decimal client) (codes " ") (decimal_line client small) (All-cons Within 32 [] refl (All-nil Within))) is

undo_words : IsLine (codes " undo ")
undo_words zero d lt = refl
undo_words (suc zero) d lt = refl
undo_words (suc (suc zero)) d lt = refl
undo_words (suc (suc (suc zero))) d lt = refl
undo_words (suc (suc (suc (suc zero)))) d lt = refl
undo_words (suc (suc (suc (suc (suc zero))))) d lt = refl
undo_words (suc (suc (suc (suc (suc (suc k)))))) d lt = absurd (omega (arith, lt))

pub undo_line : (client entry : ℕ) → client < 2 ^ 64 → entry < 2 ^ 64 → IsLine (decimal client ++ codes " undo " ++ decimal entry)
undo_line client entry small few =
    All-append Within (decimal client ++ codes " undo ") (decimal entry) (All-append Within (decimal client) (codes " undo ") (decimal_line client small) undo_words) (decimal_line entry few)

-- a line among others
pub line_within : (before : List (List ℕ)) (line : List ℕ) (behind : List (List ℕ)) → All IsLine (before ++ line ∷ behind) → IsLine line
line_within [] line behind all = All-head IsLine line behind all
line_within (b ∷ before) line behind all = line_within before line behind (All-tail IsLine b (before ++ line ∷ behind) all)
