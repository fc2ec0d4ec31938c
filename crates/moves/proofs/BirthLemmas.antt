-- Rows that are held in a tree under their births: what a change of the tree makes of the list.
use Rattle.std.proofs.Common.{◌≡◌, ◌≢◌, inl, inr, ℕ, ◌<◌, true, false, cond, List, [], ◌∷◌, Option, Some, None, Result, Ok, Err, All, refl, sym, ap, ◌∙◌, subst, arith}
use Rattle.std.specs.Ordering.{nat_cmp}
use Rattle.std.specs.Str.{bytes_eq}
use Rattle.std.specs.Map.{lookup, values_of, remove_entry, set_value}
use Rattle.std.specs.BTreeMap.{is_at, insert_entry}
use Rattle.std.specs.Result.{IsOk, OnOk}
use Rattle.std.specs.Option.{IfSome, IsSome, option_map}
use Rattle.std.proofs.lemmas.Bool.{cases_lt, lt-ltb, le-ltb, eq-eqb, ne_eqb}
use Rattle.std.proofs.lemmas.Bool.Decides.{eqb_tells}
use Rattle.std.proofs.lemmas.List.Elements.{All-head, All-map, All-tail}
use Rattle.std.proofs.lemmas.Map.Entries.{All-lookup}
use Rattle.moves.specs.declared.row.Row.{Row}
use Rattle.moves.specs.Rows.{Rows, row_of, put_in, with_row, IsListing, IsFree}
use Rattle.moves.specs.Rising.{Rises}
use Rattle.moves.specs.Births.{by_birth, born, birth_of, IsHeld}
use Rattle.moves.specs.Applied.{IsAt}
use Rattle.moves.proofs.NameLemmas.{bytes_tells}
use Rattle.moves.proofs.RowLemmas.{row_here, row_past, removed_same, removed_other, removed_none, put_same, put_other, listing-put, listing-removed, listing-with_row, with_row-same, with_row-other, free_all, free_from_all}
use Rattle.moves.proofs.ChainLemmas.{others_differ}

pub values-by_birth : (W : Rows) → values_of (by_birth W) ≡ W
values-by_birth [] = refl
values-by_birth (p ∷ W) = ap (λ V. p ∷ V) (values-by_birth W)

pub at_same : (b c : ℕ) → b ≡ c → is_at (nat_cmp b) c ≡ true
at_same b c e = rw (le-ltb b c (omega arith), eq-eqb b c e) refl

pub at_other : (b c : ℕ) → b ≢ c → is_at (nat_cmp b) c ≡ false
at_other b c apart = elim (cases_lt b c) [
  | inl h ↦ rw (lt-ltb b c h) refl
  | inr h ↦ rw (le-ltb b c h, ne_eqb b c apart) refl
]

pub at_later : (b c : ℕ) → c < b → is_at (nat_cmp b) c ≡ false
at_later b c h = rw (le-ltb b c (omega arith), ne_eqb b c (λ e. absurd (omega arith))) refl

-- rows under their births rise
rises_by_birth : (W : Rows) → IsListing W → Rises (by_birth W)
rises_by_birth [] l = tt
rises_by_birth (p ∷ W) l =
    (All-map (λ (f : ℕ × (List ℕ × Row)). p.1.birth < f.0) (λ (q : List ℕ × Row). (q.1.birth, q)) W l.1, rises_by_birth W l.2)

-- a row in the rest of a listing is later than the first
later : (p : List ℕ × Row) (W : Rows) (x : List ℕ) (r : Row) → IsListing (p ∷ W) → row_of W x ≡ Some r → p.1.birth < r.birth
later p W x r l at = subst (λ o. IfSome o (λ (t : Row). p.1.birth < t.birth)) at (All-lookup (λ (t : Row). p.1.birth < t.birth) (bytes_eq x) W l.1)

put_by_birth : (x : List ℕ) (r : Row) (W : Rows) → All (λ (q : List ℕ × Row). q.1.birth ≢ r.birth) W → insert_entry nat_cmp (by_birth W) r.birth (x, r) ≡ by_birth (put_in x r W)
put_by_birth x r [] new = refl
put_by_birth x r (p ∷ W) new = elim (cases_lt r.birth p.1.birth) [
  | inl h ↦ rw (lt-ltb r.birth p.1.birth h) refl
  | inr h ↦
      let differ : p.1.birth ≢ r.birth = All-head (λ (q : List ℕ × Row). q.1.birth ≢ r.birth) p W new in
      rw (le-ltb r.birth p.1.birth h, ne_eqb r.birth p.1.birth (λ e. differ (sym e)))
      (ap (λ V. (p.1.birth, p) ∷ V) (put_by_birth x r W (All-tail (λ (q : List ℕ × Row). q.1.birth ≢ r.birth) p W new)))
]

take_by_birth : (W : Rows) (x : List ℕ) (r : Row) → IsListing W → row_of W x ≡ Some r → remove_entry (is_at (nat_cmp r.birth)) (by_birth W) ≡ by_birth (remove_entry (bytes_eq x) W)
take_by_birth [] x r l at = absurd cc
take_by_birth (p ∷ W) x r l at = elim (bytes_tells x p.0) [
  | inl h ↦
      let here : row_of (p ∷ W) x ≡ Some p.1 = row_here x p W h.1 in
      let same : p.1 ≡ r = cc in
      rw (h.0, at_same r.birth p.1.birth (ap (λ (t : Row). t.birth) (sym same))) refl
  | inr h ↦
      let there : row_of W x ≡ Some r = sym (row_past x p W h.0) ∙ at in
      rw (h.0, at_later r.birth p.1.birth (later p W x r l there)) (ap (λ V. (p.1.birth, p) ∷ V) (take_by_birth W x r l.2 there))
]

set_by_birth : (W : Rows) (x : List ℕ) (r s : Row) → IsListing W → row_of W x ≡ Some r → s.birth ≡ r.birth → set_value (is_at (nat_cmp r.birth)) (by_birth W) (x, s) ≡ by_birth (with_row W x (Some s))
set_by_birth [] x r s l at born = absurd cc
set_by_birth (p ∷ W) x r s l at born = elim (bytes_tells x p.0) [
  | inl h ↦
      let here : row_of (p ∷ W) x ≡ Some p.1 = row_here x p W h.1 in
      let same : p.1 ≡ r = cc in
      let age : p.1.birth ≡ s.birth = ap (λ (t : Row). t.birth) same ∙ sym born in
      rw (h.0, at_same r.birth p.1.birth (ap (λ (t : Row). t.birth) (sym same)))
      (ap (λ b. (b, (x, s)) ∷ by_birth W) age ∙ ap by_birth (sym (put_first W x p.1.birth s l.1 (sym age))))
  | inr h ↦
      let there : row_of W x ≡ Some r = sym (row_past x p W h.0) ∙ at in
      let past : p.1.birth < r.birth = later p W x r l there in
      rw (h.0, at_later r.birth p.1.birth past, le-ltb s.birth p.1.birth (omega arith)) (ap (λ V. (p.1.birth, p) ∷ V) (set_by_birth W x r s l.2 there born))
]
  where
    put_first : (W : Rows) (x : List ℕ) (b : ℕ) (s : Row) → All (λ (q : List ℕ × Row). b < q.1.birth) W → s.birth ≡ b → put_in x s W ≡ (x, s) ∷ W
    put_first [] x b s all same = refl
    put_first (p ∷ W) x b s all same = let here : b < p.1.birth = All-head (λ (q : List ℕ × Row). b < q.1.birth) p W all in rw (lt-ltb s.birth p.1.birth (omega arith)) refl

-- a name's row is found under its birth
pub born-row : (W : Rows) (x : List ℕ) (r : Row) → IsListing W → row_of W x ≡ Some r → born W r.birth ≡ Some (x, r)
born-row [] x r l at = absurd cc
born-row (p ∷ W) x r l at = elim (bytes_tells x p.0) [
  | inl h ↦
      let here : row_of (p ∷ W) x ≡ Some p.1 = row_here x p W h.1 in
      let same : p.1 ≡ r = cc in
      rw (at_same r.birth p.1.birth (ap (λ (t : Row). t.birth) (sym same))) (ap Some (λ i. (sym h.1 i, same i)))
  | inr h ↦
      let there : row_of W x ≡ Some r = sym (row_past x p W h.0) ∙ at in
      rw (at_later r.birth p.1.birth (later p W x r l there)) (born-row W x r l.2 there)
]

-- what is found under a birth is a name's row of this birth
pub row-born : (W : Rows) (b : ℕ) (p : List ℕ × Row) → IsListing W → born W b ≡ Some p → (row_of W p.0 ≡ Some p.1) × (p.1.birth ≡ b)
row-born [] b p l at = absurd cc
row-born (q ∷ W) b p l at = elim (eqb_tells b q.1.birth) [
  | inl h ↦
      let here : born (q ∷ W) b ≡ Some q = rw (at_same b q.1.birth h.1) refl in
      let same : q ≡ p = cc in
      subst (λ (p : List ℕ × Row). (row_of (q ∷ W) p.0 ≡ Some p.1) × (p.1.birth ≡ b)) same (row_here q.0 q W refl, sym h.1)
  | inr h ↦
      let past : born (q ∷ W) b ≡ born W b = rw (at_other b q.1.birth h.1) refl in
      let there : born W b ≡ Some p = sym past ∙ at in
      let rest = row-born W b p l.2 there in
      elim (bytes_tells p.0 q.0) [
        | inl g ↦ let none : row_of W p.0 ≡ None = subst (λ y. row_of W y ≡ None) (sym g.1) l.0 in let some = rest.0 in absurd cc
        | inr g ↦ (row_past p.0 q W g.0 ∙ rest.0, rest.1)
      ]
]

-- a row's own birth is no other row's
free_own : (W : Rows) (x : List ℕ) (r : Row) → IsListing W → row_of W x ≡ Some r → IsFree W x (Some r)
free_own W x r l at = free_from_all W x r (others_differ W x r l at)

-- what a call ensures where it succeeds
pub is_done : {A E : Type 0} (r : Result A E) (P : Type 0) → IsOk r → OnOk r P → P
is_done (Ok a) P ok p = p
is_done (Err e) P ok p = absurd cc

module _ (N : List (List ℕ × ℕ)) (T : List (ℕ × (List ℕ × Row))) where
  values_as : (W : Rows) → T ≡ by_birth W → values_of T ≡ W
  values_as W tree = ap values_of tree ∙ values-by_birth W

  held_as : (W : Rows) → IsListing W → T ≡ by_birth W → ((x : List ℕ) → lookup (bytes_eq x) N ≡ birth_of W x) → (values_of T ≡ W) × IsHeld N T
  held_as W l tree names =
      let same : values_of T ≡ W = values_as W tree in
      let held : IsHeld N T = record {
        listing = subst IsListing (sym same) l;
        tree = tree ∙ ap by_birth (sym same);
        names = λ x. names x ∙ ap (λ U. birth_of U x) (sym same);
      } in
      (same, held)

module _ (N : List (List ℕ × ℕ)) (T : List (ℕ × (List ℕ × Row))) (held : IsHeld N T) where
  abbrev W : Rows
  W = values_of T

  pub rises_held : Rises T
  rises_held = subst Rises (sym held.tree) (rises_by_birth W held.listing)

  pub in_tree : (b : ℕ) → lookup (is_at (nat_cmp b)) T ≡ born W b
  in_tree b = ap (lookup (is_at (nat_cmp b))) held.tree

  pub none_held : (x : List ℕ) → lookup (bytes_eq x) N ≡ None → row_of W x ≡ None
  none_held x none = by (row_of W x) refl
    where
      by : (o : Option Row) → row_of W x ≡ o → row_of W x ≡ None
      by None at = at
      by (Some r) at = let e : lookup (bytes_eq x) N ≡ Some r.birth = held.names x ∙ ap (option_map (λ (t : Row). t.birth)) at in absurd cc

  pub found_held : (x : List ℕ) (b : ℕ) → lookup (bytes_eq x) N ≡ Some b → IsAt W b x
  found_held x b some = by (row_of W x) refl
    where
      by : (o : Option Row) → row_of W x ≡ o → IsAt W b x
      by None at = let e : lookup (bytes_eq x) N ≡ None = held.names x ∙ ap (option_map (λ (t : Row). t.birth)) at in absurd cc
      by (Some r) at =
          let e : lookup (bytes_eq x) N ≡ Some r.birth = held.names x ∙ ap (option_map (λ (t : Row). t.birth)) at in
          let same : r.birth ≡ b = cc in
          (r, subst (λ c. born W c ≡ Some (x, r)) same (born-row W x r held.listing at), at)

  -- the birth of a row that may come is no other's
  pub free_held : (x : List ℕ) (r : Row) → row_of W x ≡ None → IsFree W x (Some r) → lookup (is_at (nat_cmp r.birth)) T ≡ None
  free_held x r none free = by (born W r.birth) refl
    where
      by : (o : Option (List ℕ × Row)) → born W r.birth ≡ o → lookup (is_at (nat_cmp r.birth)) T ≡ None
      by None at = in_tree r.birth ∙ at
      by (Some p) at =
          let there = row-born W r.birth p held.listing at in
          absurd (free p.0 p.1 (λ e. let some : row_of W x ≡ Some p.1 = ap (row_of W) (sym e) ∙ there.0 in absurd cc) there.0 there.1)

  -- a row in a name's place that keeps its birth
  pub held_set : (U : List (ℕ × (List ℕ × Row))) (b : ℕ) (p : List ℕ × Row) (s : Row) → lookup (is_at (nat_cmp b)) T ≡ Some p → s.birth ≡ p.1.birth → U ≡ set_value (is_at (nat_cmp b)) T (p.0, s)
      → (values_of U ≡ with_row W p.0 (Some s)) × IsHeld N U
  held_set U b p s at same is =
      let there = row-born W b p held.listing (sym (in_tree b) ∙ at) in
      let keeps : IsFree W p.0 (Some s) = subst (λ c. (y : List ℕ) (t : Row) → y ≢ p.0 → row_of W y ≡ Some t → t.birth ≢ c) (sym same) (free_own W p.0 p.1 held.listing there.0) in
      let tree : U ≡ by_birth (with_row W p.0 (Some s)) =
      is ∙ ap (λ es. set_value (is_at (nat_cmp b)) es (p.0, s)) held.tree ∙ ap (λ c. set_value (is_at (nat_cmp c)) (by_birth W) (p.0, s)) (sym there.1)
      ∙ set_by_birth W p.0 p.1 s held.listing there.0 same in
      held_as N U (with_row W p.0 (Some s)) (listing-with_row W p.0 (Some s) held.listing keeps) tree (λ x. elim (bytes_tells x p.0) [
        | inl g ↦ held.names x ∙ ap (birth_of W) g.1 ∙ ap (option_map (λ (t : Row). t.birth)) there.0 ∙ ap Some (sym same)
            ∙ sym (ap (option_map (λ (t : Row). t.birth)) (ap (row_of (with_row W p.0 (Some s))) g.1 ∙ with_row-same W p.0 (Some s) held.listing))
        | inr g ↦ held.names x ∙ sym (ap (option_map (λ (t : Row). t.birth)) (with_row-other W p.0 x (Some s) g.1))
      ])

  -- a row that comes
  pub held_put : (M : List (List ℕ × ℕ)) (U : List (ℕ × (List ℕ × Row))) (x : List ℕ) (r : Row) → row_of W x ≡ None → IsFree W x (Some r)
      → U ≡ insert_entry nat_cmp T r.birth (x, r) → ((y : List ℕ) → lookup (bytes_eq y) M ≡ cond (bytes_eq x y) (Some r.birth) (lookup (bytes_eq y) N))
      → (values_of U ≡ put_in x r W) × IsHeld M U
  held_put M U x r none free is names =
      let new : All (λ (q : List ℕ × Row). q.1.birth ≢ r.birth) W = subst (λ V. All (λ (q : List ℕ × Row). q.1.birth ≢ r.birth) V) (removed_none W x none) (free_all W x r held.listing free) in
      let tree : U ≡ by_birth (put_in x r W) = is ∙ ap (λ es. insert_entry nat_cmp es r.birth (x, r)) held.tree ∙ put_by_birth x r W new in
      held_as M U (put_in x r W) (listing-put W x r held.listing none new) tree (λ y. elim (bytes_tells x y) [
        | inl g ↦ names y ∙ ap (λ t. cond t (Some r.birth) (lookup (bytes_eq y) N)) g.0 ∙ sym (ap (option_map (λ (t : Row). t.birth)) (ap (row_of (put_in x r W)) (sym g.1) ∙ put_same W x r none))
        | inr g ↦ names y ∙ ap (λ t. cond t (Some r.birth) (lookup (bytes_eq y) N)) g.0 ∙ held.names y ∙ sym (ap (option_map (λ (t : Row). t.birth)) (put_other W x y r (λ e. g.1 (sym e))))
      ])

  -- a row that goes
  pub held_take : (M : List (List ℕ × ℕ)) (U : List (ℕ × (List ℕ × Row))) (x : List ℕ) (b : ℕ) → lookup (bytes_eq x) N ≡ Some b
      → U ≡ remove_entry (is_at (nat_cmp b)) T → ((y : List ℕ) → lookup (bytes_eq y) M ≡ cond (bytes_eq x y) None (lookup (bytes_eq y) N))
      → (values_of U ≡ remove_entry (bytes_eq x) W) × IsHeld M U
  held_take M U x b some is names =
      let at = found_held x b some in
      let there = row-born W b (x, at.0) held.listing at.1 in
      let tree : U ≡ by_birth (remove_entry (bytes_eq x) W) =
      is ∙ ap (remove_entry (is_at (nat_cmp b))) held.tree ∙ ap (λ c. remove_entry (is_at (nat_cmp c)) (by_birth W)) (sym there.1) ∙ take_by_birth W x at.0 held.listing at.2 in
      held_as M U (remove_entry (bytes_eq x) W) (listing-removed W x held.listing) tree (λ y. elim (bytes_tells x y) [
        | inl g ↦ names y ∙ ap (λ t. cond t None (lookup (bytes_eq y) N)) g.0 ∙ sym (ap (option_map (λ (t : Row). t.birth)) (ap (row_of (remove_entry (bytes_eq x) W)) (sym g.1) ∙ removed_same W x held.listing))
        | inr g ↦ names y ∙ ap (λ t. cond t None (lookup (bytes_eq y) N)) g.0 ∙ held.names y ∙ sym (ap (option_map (λ (t : Row). t.birth)) (removed_other W x y (λ e. g.1 (sym e))))
      ])

  pub taken_there : (x : List ℕ) (b : ℕ) (o : Option (List ℕ × Row)) → lookup (bytes_eq x) N ≡ Some b → o ≡ lookup (is_at (nat_cmp b)) T → IsSome o
  taken_there x b o some is = subst IsSome (sym (is ∙ in_tree b ∙ (found_held x b some).1)) refl

  pub taken_row : (x : List ℕ) (b : ℕ) (p : List ℕ × Row) → lookup (bytes_eq x) N ≡ Some b → lookup (is_at (nat_cmp b)) T ≡ Some p → Some p.1 ≡ row_of W x
  taken_row x b p some at =
      let there = found_held x b some in
      let found : Some (x, there.0) ≡ Some p = sym there.1 ∙ sym (in_tree b) ∙ at in
      let same : (x, there.0) ≡ p = cc in
      ap (λ (q : List ℕ × Row). Some q.1) (sym same) ∙ sym there.2
