-- A listing copied row by row.
use Rattle.std.proofs.Common.{◌≡◌, ◌≢◌, inl, inr, ℕ, zero, suc, ◌+◌, ◌<◌, slice_get, take, List, [], ◌∷◌, ◌++◌, Some, None, All, refl, sym, ap, ◌∙◌, subst, arith}
use Rattle.std.specs.Option.{IfSome}
use Rattle.std.specs.Str.{bytes_eq}
use Rattle.std.proofs.lemmas.Bool.{le-ltb}
use Rattle.std.proofs.lemmas.List.Elements.{All-nil, All-cons, All-head, All-tail}
use Rattle.std.proofs.lemmas.Map.Entries.{All-lookup}
use Rattle.moves.specs.declared.row.Row.{Row}
use Rattle.moves.specs.Rows.{Rows, row_of, put_in, IsListing, IsFree, IsOfTrace}
use Rattle.moves.proofs.NameLemmas.{bytes_tells}
use Rattle.moves.proofs.RowLemmas.{row_here}
use Rattle.rapid_text.specs.Recording.{Recording}

-- a row of the latest birth comes to the end
pub put_end : (W : Rows) (x : List ℕ) (r : Row) → All (λ (q : List ℕ × Row). q.1.birth < r.birth) W → put_in x r W ≡ W ++ (x, r) ∷ []
put_end [] x r low = refl
put_end (p ∷ W) x r low =
    let here : p.1.birth < r.birth = All-head (λ (q : List ℕ × Row). q.1.birth < r.birth) p W low in
    rw (le-ltb r.birth p.1.birth (omega arith)) (ap (λ V. p ∷ V) (put_end W x r (All-tail (λ (q : List ℕ × Row). q.1.birth < r.birth) p W low)))

-- the rows before one of a listing: none has its name, and all have earlier births
pub earlier_rows : (A C : Rows) (p : List ℕ × Row) → IsListing (A ++ p ∷ C) → (row_of A p.0 ≡ None) × All (λ (q : List ℕ × Row). q.1.birth < p.1.birth) A
earlier_rows [] C p l = (refl, All-nil (λ (q : List ℕ × Row). q.1.birth < p.1.birth))
earlier_rows (q ∷ A) C p l =
    let rest = earlier_rows A C p l.2 in
    let low : q.1.birth < p.1.birth = at_all A l.1 in (
      elim (bytes_tells p.0 q.0) [
        | inl h ↦ let there = has A in let none : row_of (A ++ p ∷ C) p.0 ≡ None = subst (λ y. row_of (A ++ p ∷ C) y ≡ None) (sym h.1) l.0 in absurd (there none)
        | inr h ↦ rw h.0 rest.0
      ],
      All-cons (λ (q : List ℕ × Row). q.1.birth < p.1.birth) q A low rest.1,
    )
  where
    at_all : (A : Rows) → All (λ (t : List ℕ × Row). q.1.birth < t.1.birth) (A ++ p ∷ C) → q.1.birth < p.1.birth
    at_all [] all = All-head (λ (t : List ℕ × Row). q.1.birth < t.1.birth) p C all
    at_all (t ∷ A) all = at_all A (All-tail (λ (t : List ℕ × Row). q.1.birth < t.1.birth) t (A ++ p ∷ C) all)

    has : (A : Rows) → row_of (A ++ p ∷ C) p.0 ≢ None
    has [] none = let e : row_of (p ∷ C) p.0 ≡ Some p.1 = row_here p.0 p C refl in absurd cc
    has (t ∷ A) none = elim (bytes_tells p.0 t.0) [
      | inl h ↦ let e : row_of (t ∷ (A ++ p ∷ C)) p.0 ≡ Some t.1 = row_here p.0 t (A ++ p ∷ C) h.1 in absurd cc
      | inr h ↦ has A (rw h.0 at none)
    ]

pub free_end : (W : Rows) (x : List ℕ) (r : Row) → All (λ (q : List ℕ × Row). q.1.birth < r.birth) W → IsFree W x (Some r)
free_end W x r low y s apart at same =
    let up : s.birth < r.birth = subst (λ o. IfSome o (λ (t : Row). t.birth < r.birth)) at (All-lookup (λ (t : Row). t.birth < r.birth) (bytes_eq y) W low) in
    absurd (omega arith)

pub traced_at : (T : Recording) (A C : Rows) (p : List ℕ × Row) → IsOfTrace T (A ++ p ∷ C) → p.1.schedule.trace ≡ T
traced_at T [] C p all = All-head (λ (q : List ℕ × Row). q.1.schedule.trace ≡ T) p C all
traced_at T (q ∷ A) C p all = traced_at T A C p (All-tail (λ (q : List ℕ × Row). q.1.schedule.trace ≡ T) q (A ++ p ∷ C) all)

split_at : (W : Rows) (k : ℕ) (p : List ℕ × Row) → slice_get W k ≡ Some p → (C : Rows) × (W ≡ take k W ++ p ∷ C)
split_at [] k p at = absurd cc
split_at (q ∷ W) zero p at = let is : q ≡ p = cc in (W, ap (λ (r : List ℕ × Row). r ∷ W) is)
split_at (q ∷ W) (suc k) p at = let r = split_at W k p at in (r.0, ap (λ V. q ∷ V) r.1)

take_more : (W : Rows) (k : ℕ) (p : List ℕ × Row) → slice_get W k ≡ Some p → take (suc k) W ≡ take k W ++ p ∷ []
take_more [] k p at = absurd cc
take_more (q ∷ W) zero p at = let is : q ≡ p = cc in ap (λ (r : List ℕ × Row). r ∷ []) is
take_more (q ∷ W) (suc k) p at = ap (λ V. q ∷ V) (take_more W k p at)

-- the row at a place, beside those before it
module _ (T : Recording) (W : Rows) (k : ℕ) (x : List ℕ) (r : Row) (l : IsListing W) (all : IsOfTrace T W) (at : slice_get W k ≡ Some (x, r)) where
  here : (row_of (take k W) x ≡ None) × All (λ (q : List ℕ × Row). q.1.birth < r.birth) (take k W)
  here = let s = split_at W k (x, r) at in earlier_rows (take k W) s.0 (x, r) (subst IsListing s.1 l)

  pub row_traced : r.schedule.trace ≡ T
  row_traced = let s = split_at W k (x, r) at in traced_at T (take k W) s.0 (x, r) (subst (IsOfTrace T) s.1 all)

  pub row_new : row_of (take k W) x ≡ None
  row_new = here.0

  pub row_free : IsFree (take k W) x (Some r)
  row_free = free_end (take k W) x r here.1

  pub row_ends : put_in x r (take k W) ≡ take (k + 1) W
  row_ends = let up : suc k ≡ k + 1 = omega arith in put_end (take k W) x r here.1 ∙ sym (take_more W k (x, r) at) ∙ ap (λ n. take n W) up
