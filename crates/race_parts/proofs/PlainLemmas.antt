-- Objects whose members are numbers and texts: what is printed of one is a line of UTF-8 that is read as the object.
use Rattle.std.proofs.Common.{◌≡◌, ◌≢◌, ℕ, zero, suc, ◌^◌, ◌<◌, ◌≤◌, ◌+◌, ◌==◌, ◌&&◌, not, nat_lt, Bool, true, false, List, [], ◌∷◌, ◌++◌, length, map, drop, take, All, Option, None, Some, unwrap_or, slice_index, IsUtf8, decimal, refl, sym, ap, ◌∙◌, subst, arith, inl, inr}
use Rattle.std.specs.Str.{is_utf8}
use Rattle.std.specs.Str.Lossy.{after_first_chunk, error_len_after_one, error_len_after_two, error_len_of_some, replacement_bytes, second_byte_max, second_byte_min, utf8_error_len, utf8_invalid_len, utf8_lossy, utf8_lossy_within, utf8_valid_len, valid_len_up_to}
use Rattle.std.proofs.lemmas.Bool.{and_parts, cases_Bool, cases_eq, cases_lt, cond_both, eq-eqb, eqb-true, false≢true}
use Rattle.std.proofs.lemmas.Fmt.{IsAscii-decimal, decimal_digit, decimal-digits_of}
use Rattle.std.proofs.lemmas.List.{length-drop, take_all}
use Rattle.std.proofs.lemmas.List.Elements.{All-append, All-cons, All-nil}
use Rattle.std.proofs.lemmas.Str.{IsUtf8-append, IsUtf8-encode, IsUtf8-from_ascii, IsUtf8-from_is_utf8, IsUtf8-nil, utf8_valid_len_le}
use Rattle.std.proofs.Math.Nat.{zero-max}
use Rattle.std.specs.Int.{is_in_range}
use Rattle.std.specs.Int.Digits.{digits_of}
use lib.Utf8.{encode}
use Rattle.json.specs.Print.{escape, escape_byte, quoted}
use Rattle.json.specs.Tree.{MembersHaveNumbers, members_depth}
use Rattle.json.proofs.Printed.Decimals.{IsNumber-decimal}
use Rattle.json.proofs.Printed.Strings.{escape_byte_plain}
use Rattle.json.proofs.Printed.Utf8.{IsUtf8-are_ascii, IsUtf8-quoted, are_ascii}
use Rattle.serde_json.specs.Data.{Data, string, object, Members, no_members, member}
use Rattle.serde_json.specs.Read.{of_json}
use Rattle.serde_json.specs.Written.{comma_if, compact_text, members_outline, members_text, outline}
use Rattle.race_parts.specs.Lines.{HasNoFeed, Tells}
use Rattle.race_parts.specs.Objects.{whole}
use Rattle.race_parts.proofs.ReadLemmas.{data_read}

-- ---- bytes without a line feed

abbrev Free : List ℕ → Type 0
Free = All (λ b. b ≢ 10)

abbrev are_free : List ℕ → Bool
are_free [] = true
are_free (b ∷ bs) = not (b == 10) && are_free bs

not_feed : (b : ℕ) → not (b == 10) ≡ true → b ≢ 10
not_feed b e same = absurd (false≢true (sym (ap (λ x. not (x == 10)) same) ∙ e))

Free-are_free : (bs : List ℕ) → are_free bs ≡ true → Free bs
Free-are_free [] e = All-nil (λ b. b ≢ 10)
Free-are_free (b ∷ bs) e =
    let p = and_parts (not (b == 10)) (are_free bs) e in
    All-cons (λ b. b ≢ 10) b bs (not_feed b p.0) (Free-are_free bs p.1)

-- the escapes of the bytes below n have no line feed
abbrev escapes_below : ℕ → Bool
escapes_below zero = true
escapes_below (suc n) = are_free (escape_byte n) && escapes_below n

escape_below : (n : ℕ) → escapes_below n ≡ true → (x : ℕ) → x < n → are_free (escape_byte x) ≡ true
escape_below zero e x h = absurd (omega arith)
escape_below (suc n) e x h =
    let p = and_parts (are_free (escape_byte n)) (escapes_below n) e in
    elim (cases_eq x n) [ inl same ↦ ap (λ y. are_free (escape_byte y)) same ∙ p.0 | inr other ↦ escape_below n p.1 x (omega arith) ]

all_free : escapes_below 128 ≡ true
unfolding escape_byte
all_free = refl

byte_free : (x : ℕ) → Free (escape_byte x)
byte_free x = elim (cases_lt x 128) [
  | inl small ↦ Free-are_free (escape_byte x) (escape_below 128 all_free x small)
  | inr big ↦
      subst Free (sym (escape_byte_plain x (λ e. omega (arith, e)) (λ e. omega (arith, e)) (omega arith)))
      (All-cons (λ b. b ≢ 10) x [] (λ e. omega (arith, e)) (All-nil (λ b. b ≢ 10)))
]

escape_free : (s : List ℕ) → Free (escape s)
escape_free [] = All-nil (λ b. b ≢ 10)
escape_free (b ∷ bs) = All-append (λ b. b ≢ 10) (escape_byte b) (escape bs) (byte_free b) (escape_free bs)

quoted_free : (s : List ℕ) → Free (quoted s)
quoted_free s =
    All-cons (λ b. b ≢ 10) 34 (escape s ++ 34 ∷ []) (λ e. omega (arith, e))
    (All-append (λ b. b ≢ 10) (escape s) (34 ∷ []) (escape_free s) (Free-are_free (34 ∷ []) refl))

digits_free : (ds : List ℕ) → Free (map (λ e. 48 + e) ds)
digits_free [] = All-nil (λ b. b ≢ 10)
digits_free (d ∷ ds) = All-cons (λ b. b ≢ 10) (48 + d) (map (λ e. 48 + e) ds) (λ e. omega (arith, e)) (digits_free ds)

decimal_free : (n : ℕ) → n < 2 ^ 64 → Free (decimal n)
decimal_free zero small = subst Free (sym (decimal_digit 0 (omega arith))) (Free-are_free (48 ∷ []) refl)
decimal_free (suc n) small = subst Free (sym (decimal-digits_of (suc n) (omega arith) small)) (digits_free (digits_of 10 (suc n)))

-- ---- U+FFFD for each byte that does not fit

front_utf8 : (bs : List ℕ) (n : ℕ) → IsUtf8 (take (valid_len_up_to bs n) bs)
front_utf8 bs zero = IsUtf8-nil
front_utf8 bs (suc n) = elim (cases_Bool (is_utf8 (take (suc n) bs))) [
  | inl fits ↦ rw fits (IsUtf8-from_is_utf8 (take (suc n) bs) fits)
  | inr other ↦ rw other (front_utf8 bs n)
]

valid_utf8 : (bs : List ℕ) → IsUtf8 (take (utf8_valid_len bs) bs)
unfolding utf8_valid_len
valid_utf8 bs = front_utf8 bs (length bs)

-- a byte at least is replaced
invalid_some : (bs : List ℕ) → 0 < length bs → 0 < utf8_invalid_len bs
unfolding utf8_error_len
invalid_some bs some =
    let P : Option ℕ → Type 0 = λ o. 0 < unwrap_or o (length bs) in
    let x = slice_index bs 0 in
    let after_two : P (error_len_after_two bs) =
    cond_both (nat_lt (length bs) 3) None _ P (λ _. some)
    (λ _. cond_both (is_in_range 0x80 0xBF (slice_index bs 2)) _ (Some 2) P (λ _. cond_both (nat_lt (length bs) 4) None (Some 3) P (λ _. some) (λ _. omega arith)) (λ _. omega arith)) in
    let after_one : P (error_len_after_one bs) =
    cond_both (nat_lt (length bs) 2) None _ P (λ _. some)
    (λ _. cond_both (is_in_range (second_byte_min x) (second_byte_max x) (slice_index bs 1)) (error_len_after_two bs) (Some 1) P (λ _. after_two) (λ _. omega arith)) in
    cond_both (length bs == 0) None (error_len_of_some bs) P (λ _. some)
    (λ _. cond_both (is_in_range 0xC2 0xF4 x) (error_len_after_one bs) (Some 1) P (λ _. after_one) (λ _. omega arith))

shorter_after : (bs : List ℕ) → utf8_valid_len bs ≢ length bs → length (after_first_chunk bs) < length bs
shorter_after bs faulty =
    let n = utf8_valid_len bs in
    let within = utf8_valid_len_le bs in
    let invalid = invalid_some (drop n bs) (omega (arith, within, faulty, length-drop n bs)) in
    omega (arith, within, invalid, faulty, length-drop (n + utf8_invalid_len (drop n bs)) bs)

replacement_utf8 : IsUtf8 replacement_bytes
unfolding encode
replacement_utf8 = IsUtf8-encode 0xFFFD refl

within_utf8 : (k : ℕ) (bs : List ℕ) → length bs ≤ k → IsUtf8 (utf8_lossy_within k bs)
within_utf8 zero [] short = IsUtf8-nil
within_utf8 zero (b ∷ bs) short = absurd (omega arith)
within_utf8 (suc k) bs short = elim (cases_Bool (utf8_valid_len bs == length bs)) [
  | inl all ↦
      let same = eqb-true (utf8_valid_len bs) (length bs) all in
      rw all (subst IsUtf8 (take_all (utf8_valid_len bs) bs (omega (arith, same))) (valid_utf8 bs))
  | inr some ↦
      let shorter = shorter_after bs (λ e. absurd (false≢true (sym some ∙ eq-eqb (utf8_valid_len bs) (length bs) e))) in
      rw some
      (IsUtf8-append (take (utf8_valid_len bs) bs) (replacement_bytes ++ utf8_lossy_within k (after_first_chunk bs)) (valid_utf8 bs)
      (IsUtf8-append replacement_bytes (utf8_lossy_within k (after_first_chunk bs)) replacement_utf8
      (within_utf8 k (after_first_chunk bs) (omega (arith, shorter)))))
]

pub lossy_utf8 : (bs : List ℕ) → IsUtf8 (utf8_lossy bs)
unfolding utf8_lossy
lossy_utf8 bs = within_utf8 (length bs) bs (omega arith)

-- ---- members that are numbers and texts

pub data IsPlain : Data → Type 0 where
  number : (n : ℕ) → n < 2 ^ 64 → IsPlain (whole n)
  text : (s : List ℕ) → IsUtf8 s → IsPlain (string s)

pub data ArePlain : Members → Type 0 where
  none : ArePlain no_members
  more : (k : List ℕ) (d : Data) (ms : Members) → IsUtf8 k → IsPlain d → ArePlain ms → ArePlain (member k d ms)

-- one member more
pub with_number : {ms : Members} (k : List ℕ) (n : ℕ) → are_ascii k ≡ true → n < 2 ^ 64 → ArePlain ms → ArePlain (member k (whole n) ms)
with_number {ms} k n ascii small rest = ArePlain.more k (whole n) ms (IsUtf8-are_ascii k ascii) (IsPlain.number n small) rest

pub with_text : {ms : Members} (k s : List ℕ) → are_ascii k ≡ true → IsUtf8 s → ArePlain ms → ArePlain (member k (string s) ms)
with_text {ms} k s ascii utf8 rest = ArePlain.more k (string s) ms (IsUtf8-are_ascii k ascii) (IsPlain.text s utf8) rest

value_free : (d : Data) → IsPlain d → Free (compact_text d)
value_free _ (IsPlain.number n small) = decimal_free n small
value_free _ (IsPlain.text s utf8) = quoted_free s

comma_free : (later : Bool) → Free (comma_if later)
comma_free true = Free-are_free (44 ∷ []) refl
comma_free false = Free-are_free [] refl

members_free : (later : Bool) (ms : Members) → ArePlain ms → Free (members_text later ms)
members_free later _ ArePlain.none = Free-are_free (125 ∷ []) refl
members_free later _ (ArePlain.more k d ms utf8 one rest) =
    let P : ℕ → Type 0 = λ b. b ≢ 10 in
    All-append P (comma_if later) (quoted k ++ 58 ∷ (compact_text d ++ members_text true ms)) (comma_free later)
    (All-append P (quoted k) (58 ∷ (compact_text d ++ members_text true ms)) (quoted_free k)
    (All-cons P 58 (compact_text d ++ members_text true ms) (λ e. omega (arith, e)) (All-append P (compact_text d) (members_text true ms) (value_free d one) (members_free true ms rest))))

value_utf8 : (d : Data) → IsPlain d → IsUtf8 (compact_text d)
value_utf8 _ (IsPlain.number n small) = IsUtf8-from_ascii (decimal n) (IsAscii-decimal n small)
value_utf8 _ (IsPlain.text s utf8) = IsUtf8-quoted s utf8

comma_utf8 : (later : Bool) → IsUtf8 (comma_if later)
comma_utf8 true = IsUtf8-are_ascii (44 ∷ []) refl
comma_utf8 false = IsUtf8-nil

members_utf8 : (later : Bool) (ms : Members) → ArePlain ms → IsUtf8 (members_text later ms)
members_utf8 later _ ArePlain.none = IsUtf8-are_ascii (125 ∷ []) refl
members_utf8 later _ (ArePlain.more k d ms utf8 one rest) =
    IsUtf8-append (comma_if later) (quoted k ++ 58 ∷ (compact_text d ++ members_text true ms)) (comma_utf8 later)
    (IsUtf8-append (quoted k) (58 ∷ (compact_text d ++ members_text true ms)) (IsUtf8-quoted k utf8)
    (IsUtf8-append (58 ∷ []) (compact_text d ++ members_text true ms) (IsUtf8-are_ascii (58 ∷ []) refl)
    (IsUtf8-append (compact_text d) (members_text true ms) (value_utf8 d one) (members_utf8 true ms rest))))

members_numbers : (ms : Members) → ArePlain ms → MembersHaveNumbers (members_outline ms)
members_numbers _ ArePlain.none = tt
members_numbers _ (ArePlain.more k _ ms utf8 (IsPlain.number n small) rest) = (IsNumber-decimal n small, members_numbers ms rest)
members_numbers _ (ArePlain.more k _ ms utf8 (IsPlain.text s utf8') rest) = (tt, members_numbers ms rest)

members_shallow : (ms : Members) → ArePlain ms → members_depth (members_outline ms) ≡ 0
members_shallow _ ArePlain.none = refl
members_shallow _ (ArePlain.more k _ ms utf8 (IsPlain.number n small) rest) = zero-max (members_depth (members_outline ms)) ∙ members_shallow ms rest
members_shallow _ (ArePlain.more k _ ms utf8 (IsPlain.text s utf8') rest) = zero-max (members_depth (members_outline ms)) ∙ members_shallow ms rest

-- a value whose text is a line that is read as the value
pub record IsLineOf (d : Data) : Type 0 where
  pub free : HasNoFeed (compact_text d)
  pub tells : Tells (compact_text d) d

pub plain_line : (ms : Members) → ArePlain ms → of_json (outline (object ms)) ≡ Some (object ms) → IsLineOf (object ms)
plain_line ms all same =
    let P : ℕ → Type 0 = λ b. b ≢ 10 in
    let free : Free (compact_text (object ms)) = All-cons P 123 (members_text false ms) (λ e. omega (arith, e)) (members_free false ms all) in
    record {
      free = λ k inside. free k 0 inside;
      tells = (
        IsUtf8-append (123 ∷ []) (members_text false ms) (IsUtf8-are_ascii (123 ∷ []) refl) (members_utf8 false ms all),
        data_read (object ms) (members_numbers ms all) (omega (arith, members_shallow ms all)) same,
      );
    }
