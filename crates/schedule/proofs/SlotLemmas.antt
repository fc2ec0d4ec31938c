-- A list of keys, each with what is kept of it: what one more place, or another thing at a place, makes of it.
use Rattle.std.proofs.Common.{◌≡◌, ℕ, zero, suc, Bool, true, false, cond, List, [], ◌∷◌, ◌++◌, take, set, Option, Some, None, slice_get, sym, refl, ap, ◌∙◌, subst, inl, inr}
use Rattle.std.specs.Map.{lookup}
use Rattle.std.proofs.lemmas.Bool.{cases_Bool, cond-true, cond-false}
use Rattle.std.proofs.lemmas.Option.{none-some}
use Rattle.schedule.specs.Keys.{key_eq, key_eq_equiv}
use Rattle.schedule.specs.LatestTables.{held_or, changed, IsPlaceOf}
use Rattle.schedule.specs.Tables.{uncovered}
use Rattle.schedule.specs.declared.latest.Key.{Key}
use Rattle.schedule.specs.declared.latest.Latest.{Latest}
use Rattle.schedule.proofs.LatestLemmas.{key_eq-true}

abbrev pub Slot : Type 0
Slot = Key × Option Latest

-- the first place is not of a key that the list lacks
none_head : (k : Key) (x : Slot) (es : List Slot) → lookup (key_eq k) (x ∷ es) ≡ None → (key_eq k x.0 ≡ false) × (lookup (key_eq k) es ≡ None)
none_head k x es none =
    elim (cases_Bool (key_eq k x.0)) [
      | inl agrees ↦ absurd (none-some x.1 (sym none ∙ cond-true (key_eq k x.0) (Some x.1) (lookup (key_eq k) es) agrees))
      | inr differs ↦ (differs, sym (cond-false (key_eq k x.0) (Some x.1) (lookup (key_eq k) es) differs) ∙ none)
    ]

pub none_next : (k : Key) (es : List Slot) (i : ℕ) (e : Slot) → slice_get es i ≡ Some e → key_eq k e.0 ≡ false → lookup (key_eq k) (take i es) ≡ None → lookup (key_eq k) (take (suc i) es) ≡ None
none_next k [] i e at differs none = absurd cc
none_next k (x ∷ es) zero e at differs none =
    let same : x ≡ e = cc in
    cond-false (key_eq k x.0) (Some x.1) None (subst (λ (y : Slot). key_eq k y.0 ≡ false) (sym same) differs)
none_next k (x ∷ es) (suc i) e at differs none =
    let h = none_head k x (take i es) none in
    cond-false (key_eq k x.0) (Some x.1) (lookup (key_eq k) (take (suc i) es)) h.0 ∙ none_next k es i e at differs h.1

found : (k : Key) (es : List Slot) (i : ℕ) (e : Slot) → slice_get es i ≡ Some e → key_eq k e.0 ≡ true → lookup (key_eq k) (take i es) ≡ None → lookup (key_eq k) es ≡ Some e.1
found k [] i e at agrees none = absurd cc
found k (x ∷ es) zero e at agrees none =
    let same : x ≡ e = cc in
    cond-true (key_eq k x.0) (Some x.1) (lookup (key_eq k) es) (subst (λ (y : Slot). key_eq k y.0 ≡ true) (sym same) agrees) ∙ ap (λ (y : Slot). Some y.1) same
found k (x ∷ es) (suc i) e at agrees none =
    let h = none_head k x (take i es) none in
    cond-false (key_eq k x.0) (Some x.1) (lookup (key_eq k) es) h.0 ∙ found k es i e at agrees h.1

-- behind a place of another key
behind : (k q : Key) (x : Slot) (old new : Option (Option Latest)) (v : Option Latest) → key_eq k x.0 ≡ false → new ≡ cond (key_eq k q) (Some v) old
    → cond (key_eq q x.0) (Some x.1) new ≡ cond (key_eq k q) (Some v) (cond (key_eq q x.0) (Some x.1) old)
behind k q x old new v differs is =
    elim (cases_Bool (key_eq k q)) [
      | inl same ↦
          let apart : key_eq q x.0 ≡ false = sym (key_eq_equiv.congr k q x.0 same) ∙ differs in
          cond-false (key_eq q x.0) (Some x.1) new apart ∙ is ∙ cond-true (key_eq k q) (Some v) old same
          ∙ sym (cond-true (key_eq k q) (Some v) (cond (key_eq q x.0) (Some x.1) old) same)
      | inr other ↦
          ap (cond (key_eq q x.0) (Some x.1)) (is ∙ cond-false (key_eq k q) (Some v) old other)
          ∙ sym (cond-false (key_eq k q) (Some v) (cond (key_eq q x.0) (Some x.1) old) other)
    ]

-- at a place of the key itself
here : (k q : Key) (x : Slot) (old : Option (Option Latest)) (v : Option Latest) → key_eq k x.0 ≡ true → cond (key_eq q k) (Some v) old ≡ cond (key_eq k q) (Some v) (cond (key_eq q x.0) (Some x.1) old)
here k q x old v agrees =
    elim (cases_Bool (key_eq k q)) [
      | inl same ↦
          cond-true (key_eq q k) (Some v) old (key_eq_equiv.symm q k ∙ same)
          ∙ sym (cond-true (key_eq k q) (Some v) (cond (key_eq q x.0) (Some x.1) old) same)
      | inr other ↦
          let apart : key_eq q x.0 ≡ false = key_eq_equiv.symm q x.0 ∙ sym (key_eq_equiv.congr k x.0 q agrees) ∙ other in
          cond-false (key_eq q k) (Some v) old (key_eq_equiv.symm q k ∙ other)
          ∙ sym (cond-false (key_eq q x.0) (Some x.1) old apart)
          ∙ sym (cond-false (key_eq k q) (Some v) (cond (key_eq q x.0) (Some x.1) old) other)
    ]

placed : (k q : Key) (v : Option Latest) (es : List Slot) (i : ℕ) (e : Slot) → slice_get es i ≡ Some e → key_eq k e.0 ≡ true → lookup (key_eq k) (take i es) ≡ None
    → lookup (key_eq q) (set es i (k, v)) ≡ cond (key_eq k q) (Some v) (lookup (key_eq q) es)
placed k q v [] i e at agrees none = absurd cc
placed k q v (x ∷ es) zero e at agrees none =
    let same : x ≡ e = cc in
    here k q x (lookup (key_eq q) es) v (subst (λ (y : Slot). key_eq k y.0 ≡ true) (sym same) agrees)
placed k q v (x ∷ es) (suc i) e at agrees none =
    let h = none_head k x (take i es) none in
    behind k q x (lookup (key_eq q) es) (lookup (key_eq q) (set es i (k, v))) v h.0 (placed k q v es i e at agrees h.1)

pub appended : (k q : Key) (v : Option Latest) (es : List Slot) → lookup (key_eq k) es ≡ None → lookup (key_eq q) (es ++ (k, v) ∷ []) ≡ cond (key_eq k q) (Some v) (lookup (key_eq q) es)
appended k q v [] none = ap (λ b. cond b (Some v) None) (key_eq_equiv.symm q k)
appended k q v (x ∷ es) none =
    let h = none_head k x es none in
    behind k q x (lookup (key_eq q) es) (lookup (key_eq q) (es ++ (k, v) ∷ [])) v h.0 (appended k q v es h.1)

-- the first place whose key is the same
pub place_is : (k : Key) (es : List Slot) (i : ℕ) (e : Slot) → slice_get es i ≡ Some e → key_eq e.0 k ≡ true → lookup (key_eq k) (take i es) ≡ None → IsPlaceOf es k i
place_is k es i e at same none =
    let agrees : key_eq k e.0 ≡ true = key_eq_equiv.symm k e.0 ∙ same in
    record {
      kept = e.1;
      there = at ∙ ap (λ q. Some (q, e.1)) (key_eq-true e.0 k same);
      found = found k es i e at agrees none;
      placed = λ v q. placed k q v es i e at agrees none;
    }

-- what a table holds after a change of its list
or_cond : (b : Bool) (v : Option Latest) (n : Option (Option Latest)) (f : Option Latest) → held_or (cond b (Some v) n) f ≡ cond b v (held_or n f)
or_cond true v n f = refl
or_cond false v n f = refl

pub near_held : (k q : Key) (v : Option Latest) (old new : Option (Option Latest)) (f : Option Latest) → new ≡ cond (key_eq k q) (Some v) old → held_or new f ≡ cond (key_eq k q) v (held_or old f)
near_held k q v old new f is = ap (λ n. held_or n f) is ∙ or_cond (key_eq k q) v old f

-- and of its map, at a key that has differs place in the list
pub far_held : (k q : Key) (v : Option Latest) (es : List Slot) (f g : Option Latest) → lookup (key_eq k) es ≡ None → g ≡ cond (key_eq k q) v f
    → held_or (lookup (key_eq q) es) g ≡ cond (key_eq k q) v (held_or (lookup (key_eq q) es) f)
far_held k q v es f g none is =
    elim (cases_Bool (key_eq k q)) [
      | inl same ↦
          let lacks : lookup (key_eq q) es ≡ None = subst (λ (p : Key). lookup (key_eq p) es ≡ None) (key_eq-true k q same) none in
          ap (λ n. held_or n g) lacks ∙ is ∙ cond-true (key_eq k q) v f same ∙ sym (cond-true (key_eq k q) v (held_or (lookup (key_eq q) es) f) same)
      | inr other ↦
          ap (held_or (lookup (key_eq q) es)) (is ∙ cond-false (key_eq k q) v f other) ∙ sym (cond-false (key_eq k q) v (held_or (lookup (key_eq q) es) f) other)
    ]

-- what is kept of a key is changed by what it becomes, if nothing becomes of nothing
pub changed_own : (f : Option Latest → Option Latest) → f None ≡ None → (o : Option Latest) → changed (f o) o ≡ f o
changed_own f none None = sym none
changed_own f none (Some m) = refl

pub uncovered_none : (shadow : Option ℕ) → uncovered shadow None ≡ None
uncovered_none None = refl
uncovered_none (Some s) = refl
