-- Texts in two parts each, compared part by part.
use Rattle.std.proofs.Common.{◌≡◌, ℕ, ◌≤◌, ◌&&◌, nat_eq, Bool, true, false, List, [], ◌∷◌, ◌++◌, length, drop, take, refl, ap, sym, ◌∙◌, arith}
use Rattle.std.specs.Cmp.Lexicographic.{bytes_decides, pointwise}

and_assoc : (a b c : Bool) → (a && (b && c)) ≡ ((a && b) && c)
and_assoc true b c = refl
and_assoc false b c = refl

same_truth : (a b : Bool) → (a ≡ true → b ≡ true) → (b ≡ true → a ≡ true) → a ≡ b
same_truth true b to from = sym (to refl)
same_truth false true to from = from refl
same_truth false false to from = refl

-- texts compared in the other order
pub turned : (xs ys : List ℕ) → pointwise nat_eq xs ys ≡ pointwise nat_eq ys xs
turned xs ys =
    same_truth (pointwise nat_eq xs ys) (pointwise nat_eq ys xs)
    (λ same. (bytes_decides ys xs).1 (sym ((bytes_decides xs ys).0 same)))
    (λ same. (bytes_decides xs ys).1 (sym ((bytes_decides ys xs).0 same)))

-- a text compared with two texts, one after the other
pub with_joined :
    (text first second : List ℕ)
    → pointwise nat_eq text (first ++ second) ≡ (pointwise nat_eq (take (length first) text) first && pointwise nat_eq (drop (length first) text) second)
with_joined text [] second = refl
with_joined [] (f ∷ fs) second = refl
with_joined (t ∷ ts) (f ∷ fs) second =
    ap (λ b. nat_eq t f && b) (with_joined ts fs second)
    ∙ and_assoc (nat_eq t f) (pointwise nat_eq (take (length fs) ts) fs) (pointwise nat_eq (drop (length fs) ts) second)

-- two texts in two parts each, of which the second is not cut before the first
pub joined_same :
    (a b c d : List ℕ) → length a ≤ length c
    → pointwise nat_eq (a ++ b) (c ++ d) ≡ (pointwise nat_eq a (take (length a) c) && pointwise nat_eq b (drop (length a) c ++ d))
joined_same [] b c d le = refl
joined_same (x ∷ xs) b [] d le = absurd (omega (arith, le))
joined_same (x ∷ xs) b (y ∷ ys) d le =
    ap (λ r. nat_eq x y && r) (joined_same xs b ys d (omega (arith, le)))
    ∙ and_assoc (nat_eq x y) (pointwise nat_eq xs (take (length xs) ys)) (pointwise nat_eq b (drop (length xs) ys ++ d))

pub joined_yes :
    (text first second rest : List ℕ) → pointwise nat_eq (take (length first) text) first ≡ true → rest ≡ drop (length first) text
    → pointwise nat_eq rest second ≡ pointwise nat_eq text (first ++ second)
joined_yes text first second rest begins is =
    ap (λ (xs : List ℕ). pointwise nat_eq xs second) is
    ∙ sym (with_joined text first second ∙ ap (λ (b : Bool). b && pointwise nat_eq (drop (length first) text) second) begins)

pub joined_no :
    (text first second : List ℕ) → pointwise nat_eq (take (length first) text) first ≡ false → false ≡ pointwise nat_eq text (first ++ second)
joined_no text first second differs =
    sym (with_joined text first second ∙ ap (λ (b : Bool). b && pointwise nat_eq (drop (length first) text) second) differs)
