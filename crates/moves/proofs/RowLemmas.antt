-- Rows in rising birth: what a name's row is after a change, and that look-ups determine the listing.
use Rattle.std.proofs.Common.{◌≡◌, ◌≢◌, ◌⊎◌, inl, inr, ℕ, ◌<◌, false, cond, ltb, List, [], ◌∷◌, Option, Some, None, All, refl, sym, ap, ◌∙◌, subst, arith}
use Rattle.std.specs.Map.{remove_entry}
use Rattle.std.specs.Option.{IfSome}
use Rattle.std.proofs.lemmas.Bool.{cases_Bool, cases_lt, lt-ltb, le-ltb}
use Rattle.std.proofs.lemmas.List.Elements.{All-nil, All-cons, All-head, All-tail, All-weaker}
use Rattle.std.proofs.lemmas.Map.Entries.{All-lookup}
use Rattle.moves.specs.declared.row.Row.{Row}
use Rattle.moves.specs.Rows.{Rows, row_of, IsListing, put_in, with_row, IsFree}
use Rattle.std.specs.Str.{bytes_eq}
use Rattle.moves.proofs.NameLemmas.{bytes_tells, eq-bytes}

pub row_here : (x : List ℕ) (p : List ℕ × Row) (W : Rows) → x ≡ p.0 → row_of (p ∷ W) x ≡ Some p.1
row_here x p W e = rw (eq-bytes x p.0 e) refl

pub row_past : (x : List ℕ) (p : List ℕ × Row) (W : Rows) → bytes_eq x p.0 ≡ false → row_of (p ∷ W) x ≡ row_of W x
row_past x p W e = rw e refl

pub removed_other : (W : Rows) (x y : List ℕ) → y ≢ x → row_of (remove_entry (bytes_eq x) W) y ≡ row_of W y
removed_other [] x y apart = refl
removed_other (p ∷ W) x y apart = elim (bytes_tells x p.0) [
  | inl h ↦ elim (bytes_tells y p.0) [
    | inl g ↦ absurd (apart (g.1 ∙ sym h.1))
    | inr g ↦ rw (h.0, g.0) refl
  ]
  | inr h ↦ rw h.0 (ap (λ o. cond (bytes_eq y p.0) (Some p.1) o) (removed_other W x y apart))
]

pub removed_same : (W : Rows) (x : List ℕ) → IsListing W → row_of (remove_entry (bytes_eq x) W) x ≡ None
removed_same [] x l = refl
removed_same (p ∷ W) x l = elim (bytes_tells x p.0) [
  | inl h ↦ rw h.0 (subst (λ y. row_of W y ≡ None) (sym h.1) l.0)
  | inr h ↦ rw (h.0, h.0) (removed_same W x l.2)
]

-- the row is among the others only where its name is another
pub other_name : (x : List ℕ) (p : List ℕ × Row) (W : Rows) → row_of (p ∷ W) x ≡ None → (bytes_eq x p.0 ≡ false) × (x ≢ p.0)
other_name x p W none = elim (bytes_tells x p.0) [
  | inl h ↦ let e : row_of (p ∷ W) x ≡ Some p.1 = row_here x p W h.1 in absurd cc
  | inr h ↦ h
]

pub removed_none : (W : Rows) (x : List ℕ) → row_of W x ≡ None → remove_entry (bytes_eq x) W ≡ W
removed_none [] x none = refl
removed_none (p ∷ W) x none = let o = other_name x p W none in rw o.0 (ap (λ V. p ∷ V) (removed_none W x (sym (row_past x p W o.0) ∙ none)))

pub put_same : (W : Rows) (x : List ℕ) (r : Row) → row_of W x ≡ None → row_of (put_in x r W) x ≡ Some r
put_same [] x r none = row_here x (x, r) [] refl
put_same (p ∷ W) x r none = elim (cases_Bool (ltb r.birth p.1.birth)) [
  | inl h ↦ rw h (row_here x (x, r) (p ∷ W) refl)
  | inr h ↦
      let o = other_name x p W none in
      rw (h, o.0) (put_same W x r (sym (row_past x p W o.0) ∙ none))
]

pub put_other : (W : Rows) (x y : List ℕ) (r : Row) → y ≢ x → row_of (put_in x r W) y ≡ row_of W y
put_other [] x y r apart = elim (bytes_tells y x) [ inl h ↦ absurd (apart h.1) | inr h ↦ rw h.0 refl ]
put_other (p ∷ W) x y r apart = elim (cases_Bool (ltb r.birth p.1.birth)) [
  | inl h ↦ elim (bytes_tells y x) [ inl g ↦ absurd (apart g.1) | inr g ↦ rw (h, g.0) refl ]
  | inr h ↦ rw h (ap (λ o. cond (bytes_eq y p.0) (Some p.1) o) (put_other W x y r apart))
]

pub All-removed : (P : List ℕ × Row → Type 0) (W : Rows) (x : List ℕ) → All P W → All P (remove_entry (bytes_eq x) W)
All-removed P [] x all = all
All-removed P (p ∷ W) x all = elim (cases_Bool (bytes_eq x p.0)) [
  | inl h ↦ rw h (All-tail P p W all)
  | inr h ↦ rw h (All-cons P p (remove_entry (bytes_eq x) W) (All-head P p W all) (All-removed P W x (All-tail P p W all)))
]

pub All-put : (P : List ℕ × Row → Type 0) (W : Rows) (x : List ℕ) (r : Row) → P (x, r) → All P W → All P (put_in x r W)
All-put P [] x r here all = All-cons P (x, r) [] here all
All-put P (p ∷ W) x r here all = elim (cases_Bool (ltb r.birth p.1.birth)) [
  | inl h ↦ rw h (All-cons P (x, r) (p ∷ W) here all)
  | inr h ↦ rw h (All-cons P p (put_in x r W) (All-head P p W all) (All-put P W x r here (All-tail P p W all)))
]

pub listing-removed : (W : Rows) (x : List ℕ) → IsListing W → IsListing (remove_entry (bytes_eq x) W)
listing-removed [] x l = l
listing-removed (p ∷ W) x l = elim (bytes_tells x p.0) [
  | inl h ↦ rw h.0 l.2
  | inr h ↦ rw h.0 (removed_other W x p.0 (λ e. h.1 (sym e)) ∙ l.0, All-removed (λ q. p.1.birth < q.1.birth) W x l.1, listing-removed W x l.2)
]

pub listing-put : (W : Rows) (x : List ℕ) (r : Row) → IsListing W → row_of W x ≡ None → All (λ (q : List ℕ × Row). q.1.birth ≢ r.birth) W → IsListing (put_in x r W)
listing-put [] x r l none new = (refl, All-nil (λ (q : List ℕ × Row). r.birth < q.1.birth), tt)
listing-put (p ∷ W) x r l none new = elim (cases_lt r.birth p.1.birth) [
  | inl h ↦ rw (lt-ltb r.birth p.1.birth h) (
    none,
    All-cons (λ (q : List ℕ × Row). r.birth < q.1.birth) p W h (All-weaker (λ (q : List ℕ × Row). p.1.birth < q.1.birth) (λ (q : List ℕ × Row). r.birth < q.1.birth) (λ q g. omega arith) W l.1),
    l,
  )
  | inr h ↦
      let o = other_name x p W none in
      let differ : p.1.birth ≢ r.birth = All-head (λ (q : List ℕ × Row). q.1.birth ≢ r.birth) p W new in
      rw (le-ltb r.birth p.1.birth h) (
        put_other W x p.0 r (λ e. o.1 (sym e)) ∙ l.0,
        All-put (λ (q : List ℕ × Row). p.1.birth < q.1.birth) W x r (omega arith) l.1,
        listing-put W x r l.2 (sym (row_past x p W o.0) ∙ none) (All-tail (λ (q : List ℕ × Row). q.1.birth ≢ r.birth) p W new),
      )
]

-- the first row has the least birth
first_least : (p q : List ℕ × Row) (W : Rows) → IsListing (p ∷ W) → row_of (p ∷ W) q.0 ≡ Some q.1 → (p ≡ q) ⊎ (p.1.birth < q.1.birth)
first_least p q W l at = elim (bytes_tells q.0 p.0) [
  | inl h ↦ let e : row_of (p ∷ W) q.0 ≡ Some p.1 = row_here q.0 p W h.1 in let same : p.1 ≡ q.1 = cc in inl (λ i. (sym h.1 i, same i))
  | inr h ↦ inr (subst (λ o. IfSome o (λ (r : Row). p.1.birth < r.birth)) (sym (row_past q.0 p W h.0) ∙ at) (All-lookup (λ (r : Row). p.1.birth < r.birth) (bytes_eq q.0) W l.1))
]

-- two listings with the same look-ups are equal
pub rows_same : (W V : Rows) → IsListing W → IsListing V → ((x : List ℕ) → row_of W x ≡ row_of V x) → W ≡ V
rows_same [] [] lw lv same = refl
rows_same [] (q ∷ V) lw lv same = let e : row_of (q ∷ V) q.0 ≡ Some q.1 = row_here q.0 q V refl in let f = same q.0 in absurd cc
rows_same (p ∷ W) [] lw lv same = let e : row_of (p ∷ W) p.0 ≡ Some p.1 = row_here p.0 p W refl in let f = same p.0 in absurd cc
rows_same (p ∷ W) (q ∷ V) lw lv same =
    let heads : p ≡ q = by (first_least p q W lw (same q.0 ∙ row_here q.0 q V refl)) (first_least q p V lv (sym (same p.0) ∙ row_here p.0 p W refl)) in
    let lv' : IsListing (p ∷ V) = subst (λ k. IsListing (k ∷ V)) (sym heads) lv in
    let same' : (x : List ℕ) → row_of (p ∷ W) x ≡ row_of (p ∷ V) x = λ x. same x ∙ ap (λ k. row_of (k ∷ V) x) (sym heads) in
    ap (λ k. k ∷ W) heads ∙ ap (λ U. q ∷ U) (rows_same W V lw.2 lv.2 (rest lv' same'))
  where
    by : (p ≡ q) ⊎ (p.1.birth < q.1.birth) → (q ≡ p) ⊎ (q.1.birth < p.1.birth) → p ≡ q
    by (inl e) g = e
    by (inr h) (inl e) = sym e
    by (inr h) (inr g) = absurd (omega arith)

    rest : IsListing (p ∷ V) → ((x : List ℕ) → row_of (p ∷ W) x ≡ row_of (p ∷ V) x) → (x : List ℕ) → row_of W x ≡ row_of V x
    rest l s x = elim (bytes_tells x p.0) [
      | inl h ↦ subst (λ y. row_of W y ≡ row_of V y) (sym h.1) (lw.0 ∙ sym l.0)
      | inr h ↦ sym (row_past x p W h.0) ∙ s x ∙ row_past x p V h.0
    ]

-- what holds of each look-up holds of each row
pub All-from_rows : (P : List ℕ × Row → Type 0) (W : Rows) → IsListing W → ((y : List ℕ) (s : Row) → row_of W y ≡ Some s → P (y, s)) → All P W
All-from_rows P [] l h = All-nil P
All-from_rows P (p ∷ W) l h = All-cons P p W (h p.0 p.1 (row_here p.0 p W refl)) (All-from_rows P W l.2 (λ y s at. elim (bytes_tells y p.0) [
  | inl g ↦ let none : row_of W y ≡ None = subst (λ z. row_of W z ≡ None) (sym g.1) l.0 in absurd cc
  | inr g ↦ h y s (row_past y p W g.0 ∙ at)
]))

pub free_all : (W : Rows) (x : List ℕ) (r : Row) → IsListing W → IsFree W x (Some r) → All (λ (q : List ℕ × Row). q.1.birth ≢ r.birth) (remove_entry (bytes_eq x) W)
free_all W x r l free = All-from_rows (λ (q : List ℕ × Row). q.1.birth ≢ r.birth) (remove_entry (bytes_eq x) W) (listing-removed W x l) (λ y s at. elim (bytes_tells y x) [
  | inl g ↦ let none : row_of (remove_entry (bytes_eq x) W) y ≡ None = subst (λ z. row_of (remove_entry (bytes_eq x) W) z ≡ None) (sym g.1) (removed_same W x l) in absurd cc
  | inr g ↦ free y s g.1 (sym (removed_other W x y g.1) ∙ at)
])

pub free_from_all : (W : Rows) (x : List ℕ) (r : Row) → All (λ (q : List ℕ × Row). q.1.birth ≢ r.birth) (remove_entry (bytes_eq x) W) → IsFree W x (Some r)
free_from_all W x r all y s apart at = subst (λ o. IfSome o (λ (t : Row). t.birth ≢ r.birth)) (removed_other W x y apart ∙ at) (All-lookup (λ (t : Row). t.birth ≢ r.birth) (bytes_eq y) (remove_entry (bytes_eq x) W) all)

pub with_row-same : (W : Rows) (x : List ℕ) (o : Option Row) → IsListing W → row_of (with_row W x o) x ≡ o
with_row-same W x None l = removed_same W x l
with_row-same W x (Some r) l = put_same (remove_entry (bytes_eq x) W) x r (removed_same W x l)

pub with_row-other : (W : Rows) (x y : List ℕ) (o : Option Row) → y ≢ x → row_of (with_row W x o) y ≡ row_of W y
with_row-other W x y None apart = removed_other W x y apart
with_row-other W x y (Some r) apart = put_other (remove_entry (bytes_eq x) W) x y r apart ∙ removed_other W x y apart

pub listing-with_row : (W : Rows) (x : List ℕ) (o : Option Row) → IsListing W → IsFree W x o → IsListing (with_row W x o)
listing-with_row W x None l free = listing-removed W x l
listing-with_row W x (Some r) l free = listing-put (remove_entry (bytes_eq x) W) x r (listing-removed W x l) (removed_same W x l) (free_all W x r l free)
