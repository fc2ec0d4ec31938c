-- A line by its fields.
use Rattle.std.proofs.Common.{◌≡◌, ℕ, ◌≤◌, ◌==◌, Bool, true, false, not, List, length, nat_lt, refl, sym, ap, ◌∙◌}
use Rattle.std.specs.Prelude.{if◌then◌else◌}
use Rattle.std.specs.List.{list_any, before_first, after_first}
use Rattle.rapid_text.specs.Limits.{line_limit}
use Rattle.rapid_text.specs.declared.refusal.TextCause.TheVariants.{LineTooLong, NoBar}
use Rattle.rapid_text.specs.Reading.{is_bar, trimmed, fields_reading, operation_reading, line_reading, LineReading, Skipped, Refused}
use Rattle.std.proofs.lemmas.Bool.{le-ltb, ne_eqb}

-- what is chosen of a line that may be empty, too long or without a bar
abbrev chosen : Bool → Bool → Bool → LineReading → LineReading
chosen empty long barred reading =
    if empty then Skipped else (if long then Refused LineTooLong else (if not barred then Refused NoBar else reading))

chosen-last : (empty long barred : Bool) (reading : LineReading) → empty ≡ false → long ≡ false → barred ≡ true → chosen empty long barred reading ≡ reading
chosen-last empty long barred reading e l b = rw (e, l, b) refl

abbrev trimmed_reading : List ℕ → LineReading
trimmed_reading line = chosen (length line == 0) (nat_lt line_limit (length line)) (list_any is_bar line) (fields_reading line)

-- what a line with two fields asks for
pub line_reading-fields : (raw line thread rest : List ℕ) → line ≡ trimmed raw → (length line ≡ 0 → ⊥) → length line ≤ line_limit → list_any is_bar line ≡ true → thread ≡ before_first is_bar line → rest ≡ after_first is_bar line → operation_reading (trimmed thread) (trimmed (before_first is_bar rest)) (trimmed (after_first is_bar rest)) ≡ line_reading raw
line_reading-fields raw line thread rest e filled short bars before after =
    ap (λ xs. operation_reading (trimmed xs) (trimmed (before_first is_bar rest)) (trimmed (after_first is_bar rest))) before
    ∙ ap (λ xs. operation_reading (trimmed (before_first is_bar line)) (trimmed (before_first is_bar xs)) (trimmed (after_first is_bar xs))) after
    ∙ sym (chosen-last (length line == 0) (nat_lt line_limit (length line)) (list_any is_bar line) (fields_reading line) (ne_eqb (length line) 0 filled) (le-ltb line_limit (length line) short) bars)
    ∙ ap trimmed_reading e
