-- Text with no blank at either end: what `trimmed` leaves, and where it changes nothing.
use Rattle.std.proofs.Common.{◌≡◌, ℕ, ◌+◌, ◌-◌, ◌<◌, ◌≤◌, zero, suc, Bool, true, false, cond, List, [], ◌∷◌, ◌++◌, length, take, drop, reverse, get_or, All, refl, sym, ap, ◌∙◌, arith, inl, inr, append_assoc, take_all, le_refl}
use Rattle.std.specs.List.{prefix_len, suffix_len}
use Rattle.std.proofs.lemmas.Bool.{cases_lt}
use Rattle.std.proofs.lemmas.List.{reverse-append, get_or-reverse, length-reverse, length-take, length-drop}
use Rattle.std.proofs.lemmas.List.Elements.{All-take, All-drop}
use Rattle.std.proofs.lemmas.List.Sums.{prefix_len_stops, prefix_len-drop_no, prefix_len-drop_all, suffix_len-take_no}
use Rattle.rapid_text.specs.Marking.{HasNoBlank}
use Rattle.rapid_text.specs.Reading.{is_blank, trimmed}

-- no blank stands at either end
pub record IsBare (xs : List ℕ) : Type 0 where
  pub front : prefix_len is_blank xs ≡ 0
  pub back : suffix_len is_blank xs ≡ 0

-- a test that fails at the first element, whatever follows
cond-front : (b : Bool) (m n : ℕ) → cond b (1 + m) 0 ≡ 0 → cond b (1 + n) 0 ≡ 0
cond-front true m n e = absurd (omega arith)
cond-front false m n e = refl

module _ (p : ℕ → Bool) where
  -- what is kept of a text still begins with an element that fails
  front-take : (n : ℕ) (xs : List ℕ) → prefix_len p xs ≡ 0 → prefix_len p (take n xs) ≡ 0
  front-take zero xs e = refl
  front-take (suc n) [] e = refl
  front-take (suc n) (x ∷ xs) e = cond-front (p x) (prefix_len p xs) (prefix_len p (take n xs)) e

  -- behind the front that passes stands an element that fails
  front-drop : (xs : List ℕ) → prefix_len p (drop (prefix_len p xs) xs) ≡ 0
  front-drop xs =
      elim (cases_lt (prefix_len p xs) (length xs)) [
        | inl lt ↦ prefix_len-drop_no p xs (prefix_len p xs) 0 lt (prefix_len_stops p xs 0 lt)
        | inr ge ↦ prefix_len-drop_all p xs (prefix_len p xs) ge
      ]

  -- the same of the end
  back-take : (xs : List ℕ) (n : ℕ) → n ≡ length xs - suffix_len p xs → suffix_len p (take n xs) ≡ 0
  back-take xs n is =
      elim (cases_lt 0 n) [
        | inl lt ↦ (
            let within : suffix_len p xs < length xs = omega arith in
            let within' : suffix_len p xs < length (reverse xs) = omega (arith, length-reverse xs) in
            let same : get_or (reverse xs) (suffix_len p xs) 0 ≡ get_or xs (n - 1) 0 = get_or-reverse xs (suffix_len p xs) 0 within ∙ ap (λ (i : ℕ). get_or xs i 0) (omega arith) in
            let fails : p (get_or xs (n - 1) 0) ≡ false = sym (ap p same) ∙ prefix_len_stops p (reverse xs) 0 within' in
            suffix_len-take_no p xs n 0 lt (omega arith) fails)
        | inr le ↦ (let none : n ≡ 0 = omega arith in rw none refl)
      ]

  -- a text that begins with an element that fails, whatever follows
  pub front-append : (xs ys : List ℕ) → 0 < length xs → prefix_len p xs ≡ 0 → prefix_len p (xs ++ ys) ≡ 0
  front-append [] ys some e = absurd (omega arith)
  front-append (x ∷ xs) ys some e = cond-front (p x) (prefix_len p xs) (prefix_len p (xs ++ ys)) e

  -- and one whose end is followed by an element that fails
  front-before : (xs : List ℕ) (y : ℕ) (ys : List ℕ) → prefix_len p xs ≡ 0 → p y ≡ false
      → prefix_len p (xs ++ y ∷ ys) ≡ 0
  front-before [] y ys e fails = rw fails refl
  front-before (x ∷ xs) y ys e fails = cond-front (p x) (prefix_len p xs) (prefix_len p (xs ++ y ∷ ys)) e

  -- a text whose end begins with an element that fails and ends with one, whatever comes before
  pub back-append : (xs : List ℕ) (y : ℕ) (ys : List ℕ) → suffix_len p ys ≡ 0 → p y ≡ false
      → suffix_len p (xs ++ y ∷ ys) ≡ 0
  back-append xs y ys e fails =
      let turned : reverse (xs ++ y ∷ ys) ≡ reverse ys ++ y ∷ reverse xs = reverse-append xs (y ∷ ys) ∙ ap (λ (zs : List ℕ). zs ++ reverse xs) (reverse-append (y ∷ []) ys) ∙ append_assoc (reverse ys) (y ∷ []) (reverse xs) in
      ap (prefix_len p) turned ∙ front-before (reverse ys) y (reverse xs) e fails

-- a bare text stays as it is
pub trimmed-bare : (xs : List ℕ) → IsBare xs → trimmed xs ≡ xs
trimmed-bare xs bare =
    ap (λ (n : ℕ). let rest = drop n xs in take (length rest - suffix_len is_blank rest) rest) bare.front
    ∙ take_all (length xs - suffix_len is_blank xs) xs (let none = bare.back in omega arith)

-- what `trimmed` leaves is bare
pub bare-trimmed : (xs : List ℕ) → IsBare (trimmed xs)
bare-trimmed xs =
    let rest = drop (prefix_len is_blank xs) xs in
    record {
      front = front-take is_blank (length rest - suffix_len is_blank rest) rest (front-drop is_blank xs);
      back = back-take is_blank rest (length rest - suffix_len is_blank rest) refl;
    }

-- a trimmed text is no longer
pub length-trimmed-le : (xs : List ℕ) → length (trimmed xs) ≤ length xs
length-trimmed-le xs =
    let rest = drop (prefix_len is_blank xs) xs in
    omega (arith, length-take (length rest - suffix_len is_blank rest) rest, length-drop (prefix_len is_blank xs) xs)

-- what holds of each byte holds of each that `trimmed` leaves
pub All-trimmed : (P : ℕ → Type 0) → (xs : List ℕ) → All P xs → All P (trimmed xs)
All-trimmed P xs all =
    let rest = drop (prefix_len is_blank xs) xs in
    All-take P (length rest - suffix_len is_blank rest) rest (All-drop P (prefix_len is_blank xs) xs all)

-- a text without a blank stays as it is
pub trimmed-plain : (xs : List ℕ) → HasNoBlank xs → trimmed xs ≡ xs
trimmed-plain [] none = refl
trimmed-plain (x ∷ xs) none =
    trimmed-bare (x ∷ xs) (record {
      front = rw (none 0 0 (omega arith)) refl;
      back = ap (suffix_len is_blank) (sym (take_all (length (x ∷ xs)) (x ∷ xs) (le_refl (length (x ∷ xs)))))
          ∙ suffix_len-take_no is_blank (x ∷ xs) (length (x ∷ xs)) 0 (omega arith) (omega arith) (none (length (x ∷ xs) - 1) 0 (omega arith));
    })
