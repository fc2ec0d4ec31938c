-- The first line of a window's text is skipped.
use Rattle.std.proofs.Common.{◌≡◌, ℕ, ◌-◌, ◌^◌, ◌<◌, ◌≤◌, ◌==◌, ◌||◌, true, false, cond, not, List, [], ◌∷◌, ◌++◌, length, drop, nat_eq, nat_lt, All, codes, refl, sym, ap, ◌∙◌, arith, append_assoc, drop_at}
use Rattle.std.specs.Cmp.Lexicographic.{pointwise}
use Rattle.std.specs.Fmt.{decimal}
use Rattle.std.specs.List.{list_any, ends_with, suffix_len, before_first, after_first, before_last}
use Rattle.std.specs.Str.Parse.{AllDigits}
use Rattle.std.specs.Char.{digit_value}
use Rattle.std.proofs.lemmas.Bool.{cond-false, ne_eqb, le-ltb, or_from}
use Rattle.std.proofs.lemmas.Fmt.{decimal_is_IsNumeral, length-decimal-le}
use Rattle.std.proofs.lemmas.List.{length-append}
use Rattle.std.proofs.lemmas.List.Elements.{All-append, All-cons, All-nil}
use Rattle.rapid_text.specs.Limits.{line_limit}
use Rattle.rapid_text.specs.Reading.{is_blank, is_line_feed, is_bar, is_open, is_close, trimmed, is_mark, kind_of, LineReading, Skipped, Refused, named_reading, operation_reading, fields_reading, line_reading}
use Rattle.rapid_text.specs.declared.refusal.TextCause.TheVariants.{NoBar, BadParentheses, LineTooLong}
use Rattle.rapid_text.proofs.Cuts.{Fails, fails-each, before_first-at, after_first-at}
use Rattle.rapid_text.proofs.Trims.{IsBare, trimmed-bare, back-append}
use Rattle.window.specs.Cuts.{begin_line}

-- the digits of a number are no such bytes
module _ (b : ℕ) (other : 10 ≤ digit_value b) where
  no_digit : (ds : List ℕ) → AllDigits 10 ds → All (Fails (λ c. c == b)) ds
  no_digit [] all = All-nil (Fails (λ c. c == b))
  no_digit (c ∷ ds) all =
      let fails : (c == b) ≡ false = ne_eqb c b (λ same. absurd (omega (arith, all.0, other, ap digit_value same))) in
      All-cons (Fails (λ c. c == b)) c ds fails (no_digit ds all.1)

  pub number_free : (n : ℕ) → n < 2 ^ 64 → All (Fails (λ c. c == b)) (decimal n)
  number_free n small = no_digit (decimal n) (decimal_is_IsNumeral n small).0.1

-- A line with these bytes between its parentheses.
abbrev pub first_op : List ℕ → List ℕ
first_op mid = codes "begin(FROM " ++ (mid ++ 41 ∷ [])

abbrev pub first_line : List ℕ → List ℕ
first_line mid = codes "window|" ++ (first_op mid ++ 124 ∷ [])

module _ (mid : List ℕ) (no_bar : All (Fails is_bar) mid) (short : length mid ≤ 100) where
  abbrev op : List ℕ
  op = first_op mid

  abbrev line : List ℕ
  line = first_line mid

  op_bare : IsBare op
  op_bare = record {
    front = refl;
    back = ap (suffix_len is_blank) (sym (append_assoc (codes "begin(FROM ") mid (41 ∷ []))) ∙ back-append is_blank (codes "begin(FROM " ++ mid) 41 [] refl refl;
  }

  line_bare : IsBare line
  line_bare = record {
    front = refl;
    back = ap (suffix_len is_blank) (sym (append_assoc (codes "window|") op (124 ∷ []))) ∙ back-append is_blank (codes "window|" ++ op) 124 [] refl refl;
  }

  op_clear : All (Fails is_bar) op
  op_clear =
      All-append (Fails is_bar) (codes "begin(FROM ") (mid ++ 41 ∷ []) (fails-each is_bar (codes "begin(FROM ") refl)
      (All-append (Fails is_bar) mid (41 ∷ []) no_bar (All-cons (Fails is_bar) 41 [] refl (All-nil (Fails is_bar))))

  op_ends : ends_with nat_eq op (codes ")") ≡ true
  op_ends =
      let front : List ℕ = codes "begin(FROM " ++ mid in
      ap (λ (xs : List ℕ). pointwise nat_eq (41 ∷ []) (drop (length xs - 1) xs)) (sym (append_assoc (codes "begin(FROM ") mid (41 ∷ [])))
      ∙ ap (pointwise nat_eq (41 ∷ [])) (drop_at front (41 ∷ []) (length (front ++ 41 ∷ []) - 1) (omega (arith, length-append front (41 ∷ []))))

  op_reads : (thread location : List ℕ) → operation_reading thread op location ≡ Skipped
  op_reads thread location =
      let inner = trimmed (before_last is_close (after_first is_open op)) in
      let no_paren = not (list_any is_open op) in
      let no_end = not (ends_with nat_eq op (codes ")")) in
      let closed : (no_paren || no_end) ≡ false = or_from no_paren no_end refl (ap not op_ends) in
      cond-false (no_paren || no_end) (Refused BadParentheses) (cond (is_mark (trimmed (before_first is_open op))) Skipped (named_reading thread (kind_of (trimmed (before_first is_open op))) inner location)) closed

  fields_read : fields_reading line ≡ Skipped
  fields_read =
      let rest = after_first is_bar line in
      let behind : rest ≡ op ++ 124 ∷ [] = after_first-at is_bar (codes "window") 124 (op ++ 124 ∷ []) (fails-each is_bar (codes "window") refl) refl in
      let operation : trimmed (before_first is_bar rest) ≡ op =
      ap (λ (xs : List ℕ). trimmed (before_first is_bar xs)) behind ∙ ap trimmed (before_first-at is_bar op 124 [] op_clear refl) ∙ trimmed-bare op op_bare in
      ap (λ (xs : List ℕ). operation_reading (trimmed (before_first is_bar line)) xs (trimmed (after_first is_bar rest))) operation
      ∙ op_reads (trimmed (before_first is_bar line)) (trimmed (after_first is_bar rest))

  abbrev bare_reading : List ℕ → LineReading
  bare_reading line =
      cond (length line == 0) Skipped (cond (nat_lt line_limit (length line)) (Refused LineTooLong) (cond (not (list_any is_bar line)) (Refused NoBar) (fields_reading line)))

  pub first_skipped : line_reading line ≡ Skipped
  first_skipped =
      let few : length line ≤ line_limit = omega (arith, short, length-append mid (41 ∷ []), length-append (mid ++ 41 ∷ []) (124 ∷ [])) in
      ap bare_reading (trimmed-bare line line_bare)
      ∙ cond-false (length line == 0) Skipped (cond (nat_lt line_limit (length line)) (Refused LineTooLong) (cond (not (list_any is_bar line)) (Refused NoBar) (fields_reading line)))
      (ne_eqb (length line) 0 (λ none. absurd (omega (arith, none))))
      ∙ cond-false (nat_lt line_limit (length line)) (Refused LineTooLong) (cond (not (list_any is_bar line)) (Refused NoBar) (fields_reading line)) (le-ltb line_limit (length line) few)
      ∙ fields_read

-- The first line of a window.
abbrev pub middle_of : ℕ → ℕ → ℕ → List ℕ
middle_of k m n = decimal k ++ (codes " TO " ++ (decimal m ++ (codes " PROLOGUE " ++ decimal n)))

abbrev pub head_line : ℕ → ℕ → ℕ → List ℕ
head_line k m n = first_line (middle_of k m n)

module _ (k m n : ℕ) (small_k : k < 10000000000000000000) (small_m : m < 10000000000000000000) (small_n : n < 10000000000000000000) where
  abbrev middle : List ℕ
  middle = middle_of k m n

  free_of : (b : ℕ) → 10 ≤ digit_value b → list_any (λ c. c == b) (codes " TO ") ≡ false → list_any (λ c. c == b) (codes " PROLOGUE ") ≡ false → All (Fails (λ c. c == b)) middle
  free_of b other first second =
      All-append (Fails (λ c. c == b)) (decimal k) (codes " TO " ++ (decimal m ++ (codes " PROLOGUE " ++ decimal n))) (number_free b other k (omega (arith, small_k)))
      (All-append (Fails (λ c. c == b)) (codes " TO ") (decimal m ++ (codes " PROLOGUE " ++ decimal n)) (fails-each (λ c. c == b) (codes " TO ") first)
      (All-append (Fails (λ c. c == b)) (decimal m) (codes " PROLOGUE " ++ decimal n) (number_free b other m (omega (arith, small_m)))
      (All-append (Fails (λ c. c == b)) (codes " PROLOGUE ") (decimal n) (fails-each (λ c. c == b) (codes " PROLOGUE ") second)
      (number_free b other n (omega (arith, small_n))))))

  middle_short : length middle ≤ 100
  middle_short =
      omega (
        arith,
        length-append (decimal k) (codes " TO " ++ (decimal m ++ (codes " PROLOGUE " ++ decimal n))),
        length-append (decimal m) (codes " PROLOGUE " ++ decimal n),
        length-decimal-le 19 k (omega arith) (omega (arith, small_k)) (omega (arith, small_k)),
        length-decimal-le 19 m (omega arith) (omega (arith, small_m)) (omega (arith, small_m)),
        length-decimal-le 19 n (omega arith) (omega (arith, small_n)) (omega (arith, small_n)),
      )

  pub head_skipped : line_reading (head_line k m n) ≡ Skipped
  head_skipped = first_skipped middle (free_of 124 (omega arith) refl refl) middle_short

  pub head_unbroken : All (Fails is_line_feed) (head_line k m n)
  head_unbroken =
      let feed : All (Fails is_line_feed) middle = free_of 10 (omega arith) refl refl in
      All-append (Fails is_line_feed) (codes "window|begin(FROM ") ((middle ++ 41 ∷ []) ++ 124 ∷ []) (fails-each is_line_feed (codes "window|begin(FROM ") refl)
      (All-append (Fails is_line_feed) (middle ++ 41 ∷ []) (124 ∷ [])
      (All-append (Fails is_line_feed) middle (41 ∷ []) feed (All-cons (Fails is_line_feed) 41 [] refl (All-nil (Fails is_line_feed))))
      (All-cons (Fails is_line_feed) 124 [] refl (All-nil (Fails is_line_feed))))

level : (a b c d e f : List ℕ) (g h i : ℕ) → ((a ++ b) ++ ((c ++ d) ++ ((e ++ f) ++ (g ∷ h ∷ i ∷ [])))) ≡ ((a ++ (((b ++ (c ++ (d ++ (e ++ f)))) ++ g ∷ []) ++ h ∷ [])) ++ i ∷ [])
level a b c d e f g h i = simp append_assoc

pub begin_is : (k m n : ℕ) → begin_line k m n ≡ head_line k m n ++ 10 ∷ []
begin_is k m n = level (codes "window|begin(FROM ") (decimal k) (codes " TO ") (decimal m) (codes " PROLOGUE ") (decimal n) 41 124 10
