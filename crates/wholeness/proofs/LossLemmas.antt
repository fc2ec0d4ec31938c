-- How the line that says what was left out is cut into its parts.
use Rattle.std.proofs.Common.{◌≡◌, ℕ, ◌+◌, ◌≤◌, ◌==◌, Bool, true, false, List, [], ◌∷◌, ◌++◌, append_assoc, codes, drop, get_or, length, length-append, refl, ap, sym, ◌∙◌, subst, arith}
use Rattle.std.specs.List.{list_all}
use Rattle.std.proofs.lemmas.Bool.{and_parts, both_ways, eq-eqb, eqb-true, false_from_ne_true}
use Rattle.std.proofs.lemmas.List.Elements.{All-head, All-tail, All-weaker}
use Rattle.std.proofs.lemmas.List.Sums.{AllPass-from_list_all}
use Rattle.wholeness.specs.Losses.{HasNo}
use Rattle.wholeness.specs.Marks.{is_digit, is_number, is_plain, IsLoss}

-- bytes that all pass a test have no byte that fails it
none_of : (test : ℕ → Bool) (byte : ℕ) (bytes : List ℕ) → test byte ≡ false → list_all test bytes ≡ true → HasNo byte bytes
none_of test byte bytes fails all =
    All-weaker (λ b. test b ≡ true) (λ b. (b == byte) ≡ false)
    (λ b passes. false_from_ne_true (b == byte) (λ same. both_ways (test byte) fails (subst (λ x. test x ≡ true) (eqb-true b byte same) passes)))
    bytes (AllPass-from_list_all test bytes all)

number_none : (byte : ℕ) (bytes : List ℕ) → is_digit byte ≡ false → is_number bytes ≡ true → HasNo byte bytes
number_none byte bytes fails is = none_of is_digit byte bytes fails (and_parts _ _ is).1

-- a list with the byte has the byte
pub has_one : (byte : ℕ) (first rest : List ℕ) → HasNo byte (first ++ byte ∷ rest) → ⊥
has_one byte [] rest free = both_ways (byte == byte) (All-head (λ b. (b == byte) ≡ false) byte rest free) (eq-eqb byte byte refl)
has_one byte (x ∷ first) rest free = has_one byte first rest (All-tail (λ b. (b == byte) ≡ false) x (first ++ byte ∷ rest) free)

-- the byte is not the first of bytes that have none
other_head : (byte x : ℕ) (xs : List ℕ) → HasNo byte (x ∷ xs) → x ≡ byte → ⊥
other_head byte x xs free same = both_ways (x == byte) (All-head (λ b. (b == byte) ≡ false) x xs free) (eq-eqb x byte same)

-- a text is cut at the first of the bytes in one way
pub one_cut : (byte : ℕ) (a b c d : List ℕ) → HasNo byte a → HasNo byte c → a ++ byte ∷ b ≡ c ++ byte ∷ d → (a ≡ c) × (b ≡ d)
one_cut byte [] b [] d left right same = (refl, ap (λ (xs : List ℕ). drop 1 xs) same)
one_cut byte [] b (y ∷ c) d left right same = absurd (other_head byte y c right (sym (ap (λ (xs : List ℕ). get_or xs 0 0) same)))
one_cut byte (x ∷ a) b [] d left right same = absurd (other_head byte x a left (ap (λ (xs : List ℕ). get_or xs 0 0) same))
one_cut byte (x ∷ a) b (y ∷ c) d left right same =
    let rest = one_cut byte a b c d (All-tail (λ e. (e == byte) ≡ false) x a left) (All-tail (λ e. (e == byte) ≡ false) y c right) (ap (λ (xs : List ℕ). drop 1 xs) same) in
    let head : x ≡ y = ap (λ (xs : List ℕ). get_or xs 0 0) same in
    (ap (λ (z : ℕ). z ∷ a) head ∙ ap (λ (xs : List ℕ). y ∷ xs) rest.0, rest.1)

regroup : (a b c d e f g : List ℕ) → a ++ b ++ c ++ d ++ e ++ f ++ g ≡ a ++ (b ++ (c ++ (d ++ (e ++ (f ++ g)))))
regroup a b c d e f g = simp append_assoc

-- the parts of a line that says what was left out
module _ (line count from cause : List ℕ) (is : IsLoss line count from cause) where
  abbrev last_part : List ℕ
  last_part = cause ++ codes ")|"

  abbrev from_part : List ℕ
  from_part = from ++ (codes ": " ++ last_part)

  abbrev count_part : List ℕ
  count_part = count ++ (codes " FROM " ++ from_part)

  parted : line ≡ codes "recording|end(LEFT OUT " ++ count_part
  parted = is.is ∙ regroup (codes "recording|end(LEFT OUT ") count (codes " FROM ") from (codes ": ") cause (codes ")|")

  long : 23 ≤ length line
  long =
      let same : length line ≡ length (codes "recording|end(LEFT OUT " ++ count_part) = ap (λ (xs : List ℕ). length xs) parted in
      let sum : length (codes "recording|end(LEFT OUT " ++ count_part) ≡ length (codes "recording|end(LEFT OUT ") + length count_part = length-append (codes "recording|end(LEFT OUT ") count_part in
      let head : length (codes "recording|end(LEFT OUT ") ≡ 23 = refl in
      omega (arith, same, sum, head)

  -- what is cut off the line
  module _ (bytes : List ℕ) (begins : 23 ≤ length line → bytes ≡ drop 23 line) (first rest : List ℕ)
      (cut : (a b : List ℕ) → bytes ≡ a ++ 32 ∷ b → HasNo 32 a → (first ≡ a) × (rest ≡ b)) where
    pub count_cut : (first ≡ count) × (rest ≡ codes "FROM " ++ from_part)
    count_cut = cut count (codes "FROM " ++ from_part) (begins long ∙ ap (λ (xs : List ℕ). drop 23 xs) parted) (number_none 32 count refl is.count_is)

    module _ (behind : List ℕ) (goes_on : 5 ≤ length rest → behind ≡ drop 5 rest) (place left : List ℕ)
        (cut_on : (a b : List ℕ) → behind ≡ a ++ 58 ∷ b → HasNo 58 a → (place ≡ a) × (left ≡ b)) where
      pub from_cut : (place ≡ from) × (left ≡ codes " " ++ last_part)
      from_cut =
          let same : length rest ≡ length (codes "FROM " ++ from_part) = ap (λ (xs : List ℕ). length xs) count_cut.1 in
          let sum : length (codes "FROM " ++ from_part) ≡ length (codes "FROM ") + length from_part = length-append (codes "FROM ") from_part in
          let head : length (codes "FROM ") ≡ 5 = refl in
          cut_on from (codes " " ++ last_part) (goes_on (omega (arith, same, sum, head)) ∙ ap (λ (xs : List ℕ). drop 5 xs) count_cut.1) (number_none 58 from refl is.from_is)

      module _ (end : List ℕ) (ends : 1 ≤ length left → end ≡ drop 1 left) (why over : List ℕ)
          (cut_last : (a b : List ℕ) → end ≡ a ++ 41 ∷ b → HasNo 41 a → (why ≡ a) × (over ≡ b)) where
        pub cause_cut : why ≡ cause
        cause_cut =
            let same : length left ≡ length (codes " " ++ last_part) = ap (λ (xs : List ℕ). length xs) from_cut.1 in
            let sum : length (codes " " ++ last_part) ≡ length (codes " ") + length last_part = length-append (codes " ") last_part in
            let head : length (codes " ") ≡ 1 = refl in
            (cut_last cause (codes "|") (ends (omega (arith, same, sum, head)) ∙ ap (λ (xs : List ℕ). drop 1 xs) from_cut.1) (none_of is_plain 41 cause refl (and_parts _ _ is.cause_is).1)).0
