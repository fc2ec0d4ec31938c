-- The name in `word(name)`: from the first `(` to the `)` at the end.
use Rattle.std.proofs.Common.{◌≡◌, ℕ, ◌<◌, ◌+◌, ◌-◌, Bool, true, false, not, ◌||◌, List, [], ◌∷◌, ◌++◌, length, take, get_or, nat_eq, refl, sym, ap, ◌∙◌, arith, inl, inr, ⊎_elim}
use Rattle.std.specs.Prelude.{◌⊎◌, codes, if◌then◌else◌}
use Rattle.std.specs.List.{position_or_len, list_any, before_first, after_first, before_last, ends_with, suffix_len}
use Rattle.std.proofs.lemmas.Bool.{eqb-true}
use Rattle.std.proofs.lemmas.Bool.Decides.{Decides-eqb}
use Rattle.std.proofs.lemmas.List.{append_assoc, reverse-append, take_at, length-append, same_from_push}
use Rattle.std.proofs.lemmas.List.Sums.{split_at_first, passes_at_first}
use Rattle.std.proofs.lemmas.Slice.Eq.{ends_is}
use Rattle.rapid_text.proofs.Positions.{any-position, not_true}
use Rattle.rapid_text.specs.Reading.{is_open, is_close, is_mark, kind_of, named_reading, operation_reading, trimmed, LineReading, Skipped, Refused}
use Rattle.rapid_text.specs.declared.refusal.TextCause.TheVariants.{BadParentheses}

-- what stands before the last `)`, where that is the last byte
pub before_last-closed : (name : List ℕ) → before_last is_close (name ++ 41 ∷ []) ≡ name
before_last-closed name =
    let none : suffix_len (λ x. not (is_close x)) (name ++ 41 ∷ []) ≡ 0 = rw (reverse-append name (41 ∷ [])) refl in
    let len : length (name ++ 41 ∷ []) ≡ length name + 1 = length-append name (41 ∷ []) in
    take_at name (41 ∷ []) (length (name ++ 41 ∷ []) - suffix_len (λ x. not (is_close x)) (name ++ 41 ∷ []) - 1) (omega (arith, none, len))

-- a list is empty or has a last element
last_of : (xs : List ℕ) → (xs ≡ []) ⊎ ((ys : List ℕ) × (y : ℕ) × (xs ≡ ys ++ y ∷ []))
last_of [] = inl refl
last_of (x ∷ xs) = ⊎_elim
    (λ (e : xs ≡ []). inr ([], x, ap (λ zs. x ∷ zs) e))
    (λ (e : (ys : List ℕ) × (y : ℕ) × (xs ≡ ys ++ y ∷ [])). inr (x ∷ e.0, e.1, ap (λ zs. x ∷ zs) e.2))
    (last_of xs)

-- the operation is its word, `(` and the rest
pub opened : (operation : List ℕ) → list_any is_open operation ≡ true → operation ≡ before_first is_open operation ++ 40 ∷ after_first is_open operation
opened operation is =
    let lt : position_or_len is_open operation < length operation = any-position is_open operation 0 is in
    let at : get_or operation (position_or_len is_open operation) 0 ≡ 40 = eqb-true (get_or operation (position_or_len is_open operation) 0) 40 (passes_at_first is_open operation 0 lt) in
    split_at_first is_open operation 0 lt ∙ ap (λ c. before_first is_open operation ++ c ∷ after_first is_open operation) at

-- where the rest ends in `)`, so does the operation
pub closed_rest : (operation name : List ℕ) → list_any is_open operation ≡ true → after_first is_open operation ≡ name ++ 41 ∷ [] → ends_with nat_eq operation (codes ")") ≡ true
closed_rest operation name is e =
    let word = before_first is_open operation in
    let whole : operation ≡ (word ++ 40 ∷ name) ++ 41 ∷ [] = opened operation is ∙ ap (λ xs. word ++ 40 ∷ xs) e ∙ sym (append_assoc word (40 ∷ name) (41 ∷ [])) in
    (ends_is Decides-eqb operation (codes ")") (ends_with nat_eq operation (codes ")")) refl).1 (word ++ 40 ∷ name) whole

-- where the operation ends in `)`, so does the rest
open_rest : (operation : List ℕ) → list_any is_open operation ≡ true → ((name : List ℕ) → after_first is_open operation ≡ name ++ 41 ∷ [] → ⊥) → ends_with nat_eq operation (codes ")") ≡ true → ⊥
open_rest operation is never ends =
    let word = before_first is_open operation in
    let rest = after_first is_open operation in
    let front = take (length operation - 1) operation in
    let whole : operation ≡ front ++ 41 ∷ [] = (ends_is Decides-eqb operation (codes ")") (ends_with nat_eq operation (codes ")")) refl).0 ends in
    let parts : word ++ 40 ∷ rest ≡ front ++ 41 ∷ [] = sym (opened operation is) ∙ whole in
    ⊎_elim
    (λ (e : rest ≡ []).
    let same : word ++ 40 ∷ [] ≡ front ++ 41 ∷ [] = ap (λ xs. word ++ 40 ∷ xs) (sym e) ∙ parts in
    let apart : 40 ≡ 41 = (same_from_push word front 40 41 same).1 in
    absurd (omega (arith, apart)))
    (λ (e : (ys : List ℕ) × (y : ℕ) × (rest ≡ ys ++ y ∷ [])).
    let same : (word ++ 40 ∷ e.0) ++ e.1 ∷ [] ≡ front ++ 41 ∷ [] = append_assoc word (40 ∷ e.0) (e.1 ∷ []) ∙ ap (λ xs. word ++ 40 ∷ xs) (sym e.2) ∙ parts in
    never e.0 (e.2 ∙ ap (λ c. e.0 ++ c ∷ []) (same_from_push (word ++ 40 ∷ e.0) front e.1 41 same).1))
    (last_of rest)

-- what is chosen where the operation is no mark, has a `(` and ends in `)`
abbrev chosen : Bool → Bool → Bool → LineReading → LineReading
chosen marked opens closes reading =
    if marked then Skipped else (if not opens || not closes then Refused BadParentheses else reading)

chosen-last : (marked opens closes : Bool) (reading : LineReading) → marked ≡ false → opens ≡ true → closes ≡ true → chosen marked opens closes reading ≡ reading
chosen-last marked opens closes reading m o e = rw (m, o, e) refl

chosen-refused : (marked opens closes : Bool) (reading : LineReading) → marked ≡ false → opens ≡ true → closes ≡ false → chosen marked opens closes reading ≡ Refused BadParentheses
chosen-refused marked opens closes reading m o e = rw (m, o, e) refl

-- what the word and the name of an operation ask for
abbrev pub by_word : List ℕ → List ℕ → List ℕ → List ℕ → LineReading
by_word thread word name location =
    if is_mark word then Skipped else named_reading thread (kind_of word) name location

module _ (thread operation location : List ℕ) (unmarked : is_mark operation ≡ false) (opens : list_any is_open operation ≡ true) where
  -- an operation that does not end in `)`
  pub operation_reading-unclosed : ((name : List ℕ) → after_first is_open operation ≡ name ++ 41 ∷ [] → ⊥) → operation_reading thread operation location ≡ Refused BadParentheses
  operation_reading-unclosed never =
      chosen-refused (is_mark operation) (list_any is_open operation) (ends_with nat_eq operation (codes ")"))
      (by_word thread (trimmed (before_first is_open operation)) (trimmed (before_last is_close (after_first is_open operation))) location)
      unmarked opens (not_true (ends_with nat_eq operation (codes ")")) (open_rest operation opens never))

  -- an operation that ends in `)`
  pub operation_reading-closed : (name : List ℕ) → after_first is_open operation ≡ name ++ 41 ∷ [] → operation_reading thread operation location ≡ by_word thread (trimmed (before_first is_open operation)) (trimmed name) location
  operation_reading-closed name e =
      chosen-last (is_mark operation) (list_any is_open operation) (ends_with nat_eq operation (codes ")"))
      (by_word thread (trimmed (before_first is_open operation)) (trimmed (before_last is_close (after_first is_open operation))) location)
      unmarked opens (closed_rest operation name opens e)
      ∙ ap (λ xs. by_word thread (trimmed (before_first is_open operation)) (trimmed xs) location) (ap (before_last is_close) e ∙ before_last-closed name)

  -- the same, where the word marks a bound
  pub operation_reading-mark : (name word : List ℕ) → after_first is_open operation ≡ name ++ 41 ∷ [] → word ≡ trimmed (before_first is_open operation) → is_mark word ≡ true → operation_reading thread operation location ≡ Skipped
  operation_reading-mark name word e same marks =
      operation_reading-closed name e ∙ ap (λ w. by_word thread w (trimmed name) location) (sym same) ∙ rw marks refl

  -- the same, where it does not
  pub operation_reading-named : (name word : List ℕ) → after_first is_open operation ≡ name ++ 41 ∷ [] → word ≡ trimmed (before_first is_open operation) → is_mark word ≡ false → operation_reading thread operation location ≡ named_reading thread (kind_of word) (trimmed name) location
  operation_reading-named name word e same marks =
      operation_reading-closed name e ∙ ap (λ w. by_word thread w (trimmed name) location) (sym same) ∙ rw marks refl
