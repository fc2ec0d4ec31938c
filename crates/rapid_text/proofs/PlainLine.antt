-- A line without a blank by its parts.
use Rattle.std.proofs.Common.{◌≡◌, ℕ, ◌≤◌, true, false, List, [], ◌∷◌, ◌++◌, length, sym, ap, subst, ◌∙◌, arith}
use Rattle.std.specs.List.{list_any, before_first, after_first}
use Rattle.rapid_text.specs.Limits.{line_limit}
use Rattle.rapid_text.specs.Marking.{HasNoBlank}
use Rattle.rapid_text.specs.Reading.{is_bar, is_open, is_mark, kind_of, trimmed, named_reading, operation_reading, line_reading}
use Rattle.rapid_text.proofs.Cuts.{has-first}
use Rattle.rapid_text.proofs.LineText.{line_reading-fields}
use Rattle.rapid_text.proofs.Marked.{plain-before, plain-after, plain-name, trimmed-before, trimmed-after}
use Rattle.rapid_text.proofs.Operation.{operation_reading-named}
use Rattle.rapid_text.proofs.Trims.{trimmed-plain}

-- what it asks for
pub plain-line : (line thread rest operation location word closed name : List ℕ) → HasNoBlank line → length line ≤ line_limit → list_any is_bar line ≡ true
    → thread ≡ before_first is_bar line → rest ≡ after_first is_bar line → operation ≡ before_first is_bar rest → location ≡ after_first is_bar rest
    → list_any is_open operation ≡ true → word ≡ before_first is_open operation → closed ≡ after_first is_open operation → closed ≡ name ++ 41 ∷ []
    → is_mark operation ≡ false → is_mark word ≡ false
    → named_reading thread (kind_of word) name location ≡ line_reading line
plain-line line thread rest operation location word closed name none short barred thread-is rest-is operation-is location-is opened word-is closed-is ends unmarked no_mark =
    let none_rest : HasNoBlank rest = subst HasNoBlank (sym rest-is) (plain-after is_bar line none) in
    let none_operation : HasNoBlank operation = subst HasNoBlank (sym operation-is) (plain-before is_bar rest none_rest) in
    let none_name : HasNoBlank name = plain-name closed name ends (subst HasNoBlank (sym closed-is) (plain-after is_open operation none_operation)) in
    let whole : operation ≡ trimmed (before_first is_bar rest) = sym (trimmed-plain operation none_operation) ∙ ap trimmed operation-is in
    let place : location ≡ trimmed (after_first is_bar rest) = sym (trimmed-after is_bar rest location none_rest location-is) ∙ ap trimmed location-is in
    let called : word ≡ trimmed (before_first is_open operation) = sym (trimmed-before is_open operation word none_operation word-is) ∙ ap trimmed word-is in
    ap (λ n. named_reading thread (kind_of word) n location) (sym (trimmed-plain name none_name))
    ∙ sym (operation_reading-named thread operation location unmarked opened name word (sym closed-is ∙ ends) called no_mark)
    ∙ ap (λ t. operation_reading t operation location) (sym (trimmed-before is_bar line thread none thread-is))
    ∙ ap (λ o. operation_reading (trimmed thread) o location) whole
    ∙ ap (λ l. operation_reading (trimmed thread) (trimmed (before_first is_bar rest)) l) place
    ∙ line_reading-fields line line thread rest (sym (trimmed-plain line none)) (λ e. absurd (omega (arith, has-first is_bar line barred))) short barred thread-is rest-is
