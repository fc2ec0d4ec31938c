-- Sums over a list that is read by `get_elem?`.
use Rattle.std.proofs.Common.{◌≡◌, ◌≢◌, ℕ, zero, suc, ◌+◌, ◌*◌, ◌≤◌, ◌<◌, List, [], ◌∷◌, set, get_or, length, sum_by, refl, sym, ap, subst, arith, mul-add}
use Rattle.std.proofs.lemmas.List.Sums.{sum_by-cons, sum_by-set, get_or-le-sum_by}
use mathlib.Core.Option.{some, some-injective, some-ne-none}
use mathlib.Core.Logic.{dite}
use native.Mathlib.Decide.{dec_le}
use lib.ListN.{get_elem?}

-- what stands at a place is read there, whatever the default
pub at_place : {A : Type 0} (l : List A) (i : ℕ) (v : A) → get_elem? l i ≡ some v → (i < length l) × (get_or l i v ≡ v)
at_place [] i v e = absurd (some-ne-none v (sym e))
at_place (x ∷ xs) zero v e = (omega arith, some-injective x v e)
at_place (x ∷ xs) (suc i) v e = let r = at_place xs i v e in let l = r.0 in (omega arith, r.1)

module _ {A : Type 0} (f : A → ℕ) where
  pub sum_set : (l : List A) (i : ℕ) (v w : A) → get_elem? l i ≡ some v → sum_by f (set l i w) + f v ≡ sum_by f l + f w
  sum_set l i v w e = let p = at_place l i v e in subst (λ x. sum_by f (set l i w) + f x ≡ sum_by f l + f w) p.1 (sum_by-set f l i w v p.0)

  -- a place whose part stays leaves the sum
  pub sum_kept : (l : List A) (i : ℕ) (v w : A) → get_elem? l i ≡ some v → f w ≡ f v → sum_by f (set l i w) ≡ sum_by f l
  sum_kept l i v w e same = let h = sum_set l i v w e in omega arith

  pub sum_one : (l : List A) (i : ℕ) (v : A) → get_elem? l i ≡ some v → f v ≤ sum_by f l
  sum_one l i v e = let p = at_place l i v e in subst (λ x. f x ≤ sum_by f l) p.1 (get_or-le-sum_by f l i v p.0)

  more : (x : A) (xs : List A) (n : ℕ) → n ≤ f x + sum_by f xs → n ≤ sum_by f (x ∷ xs)
  more x xs n h = subst (λ s. n ≤ s) (sym (sum_by-cons f x xs)) h

  pub sum_two : (l : List A) (i j : ℕ) (v w : A) → i ≢ j → get_elem? l i ≡ some v → get_elem? l j ≡ some w → f v + f w ≤ sum_by f l
  sum_two [] i j v w n e g = absurd (some-ne-none v (sym e))
  sum_two (x ∷ xs) zero zero v w n e g = absurd (n refl)
  sum_two (x ∷ xs) zero (suc j) v w n e g = more x xs (f v + f w) (let is : f x ≡ f v = ap f (some-injective x v e) in let r = sum_one xs j w g in omega arith)
  sum_two (x ∷ xs) (suc i) zero v w n e g = more x xs (f v + f w) (let is : f x ≡ f w = ap f (some-injective x w g) in let r = sum_one xs i v e in omega arith)
  sum_two (x ∷ xs) (suc i) (suc j) v w n e g = more x xs (f v + f w) (let r = sum_two xs i j v w (λ h. n (ap suc h)) e g in omega arith)

  pub sum_le : (g : A → ℕ) (k : ℕ) (l : List A) → ((j : ℕ) (v : A) → get_elem? l j ≡ some v → f v ≤ k * g v) → sum_by f l ≤ k * sum_by g l
  sum_le g k [] h = omega arith
  sum_le g k (x ∷ xs) h = let here : f x ≤ k * g x = h zero x refl in let r = sum_le g k xs (λ j v e. h (suc j) v e) in let d = mul-add k (g x) (sum_by g xs) in
      let whole : f x + sum_by f xs ≤ k * (g x + sum_by g xs) = omega (arith, d) in
      subst (λ (z : ℕ × ℕ). z.0 ≤ k * z.1) (λ i. (sym (sum_by-cons f x xs) i, sym (sum_by-cons g x xs) i)) whole

  pub sum_some : (l : List A) → 1 ≤ sum_by f l → (i : ℕ) × (v : A) × (get_elem? l i ≡ some v) × (1 ≤ f v)
  sum_some [] h = absurd (omega arith)
  sum_some (x ∷ xs) h = dite (dec_le 1 (f x)) (λ g. (0, x, refl, g))
      (λ g. let both : 1 ≤ f x + sum_by f xs = subst (λ s. 1 ≤ s) (sum_by-cons f x xs) h in let r = sum_some xs (omega arith) in (suc r.0, r.1, r.2, r.3))
