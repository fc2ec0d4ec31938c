-- Rows under rising ages, in two lists of which the first has the lower ages.
use Rattle.std.proofs.Common.{◌≡◌, ◌≢◌, inl, inr, ℕ, zero, suc, ◌+◌, ◌-◌, ◌<◌, Bool, false, cond, List, [], ◌∷◌, ◌++◌, length, get_or, slice_get, slice_set, Some, None, Result, Ok, Err, IfOk, IfErr, All, refl, sym, ap, ◌∙◌, subst, arith}
use Rattle.std.specs.BTreeMap.{is_at, insert_entry}
use Rattle.std.specs.Cmp.{nat_cmp_total}
use Rattle.std.specs.List.{remove}
use Rattle.std.specs.List.Sorted.{IsNonDecreasingBy, IsBinarySearchResult, IsSearchInRange}
use Rattle.std.specs.Map.{lookup, remove_entry, set_value, values_of}
use Rattle.std.specs.Option.{IfSome}
use Rattle.std.specs.Ordering.{is_lt, nat_cmp, ordering_index}
use Rattle.std.specs.Result.{OnErr}
use Rattle.std.specs.declared.cmp.Ordering.{Ordering}
use Rattle.std.specs.declared.cmp.Ordering.TheVariants.{Less, Equal, Greater}
use Rattle.std.proofs.lemmas.Bool.{cases_Bool, cases_lt, le-ltb, ne_eqb}
use Rattle.std.proofs.lemmas.Cmp.{ranked}
use Rattle.std.proofs.lemmas.List.{append_assoc, append-nil}
use Rattle.std.proofs.lemmas.List.Elements.{All-nil, All-append, All-cons, All-head, All-tail}
use Rattle.std.proofs.lemmas.List.Sorted.{searchable_from_sorted}
use Rattle.std.proofs.lemmas.Map.Entries.{lookup_tail}
use Rattle.rapid_text.specs.Recording.{Recording}
use Rattle.schedule.specs.Reordering.{IsCorrectReordering}
use Rattle.schedule.specs.Scheduled.{Scheduled}
use Rattle.moves.specs.declared.inverse.Step.{Step}
use Rattle.moves.specs.declared.row.Row.{Row}
use Rattle.moves.specs.Inverses.{stepped}
use Rattle.moves.specs.Rows.{names_of}
use Rattle.moves.specs.Rising.{Entries, Rises, IsPlaceOf, EndsBelow, CanStep, IsStepped, StepsAt, with_schedule}
use Rattle.moves.proofs.BirthLemmas.{at_same, at_other, at_later}

abbrev Held : Type 0
Held = List ℕ × Row

-- ---- what passes a test, in two lists one after the other
module _ (t : ℕ → Bool) where
  missed : (e : ℕ × Held) (A : Entries) → lookup t (e ∷ A) ≡ None → (t e.0 ≡ false) × (lookup t A ≡ None)
  missed e A none = elim (cases_Bool (t e.0)) [
    | inl h ↦ let some : lookup t (e ∷ A) ≡ Some e.1 = rw h refl in absurd cc
    | inr h ↦ (h, sym (lookup_tail t e A h) ∙ none)
  ]

  pub lookup_right : (A B : Entries) → lookup t A ≡ None → lookup t (A ++ B) ≡ lookup t B
  lookup_right [] B none = refl
  lookup_right (e ∷ A) B none = let m = missed e A none in rw m.0 (lookup_right A B m.1)

  pub remove_right : (A B : Entries) → lookup t A ≡ None → remove_entry t (A ++ B) ≡ A ++ remove_entry t B
  remove_right [] B none = refl
  remove_right (e ∷ A) B none = let m = missed e A none in rw m.0 (ap (λ F. e ∷ F) (remove_right A B m.1))

  pub set_right : (A B : Entries) (w : Held) → lookup t A ≡ None → set_value t (A ++ B) w ≡ A ++ set_value t B w
  set_right [] B w none = refl
  set_right (e ∷ A) B w none = let m = missed e A none in rw m.0 (ap (λ F. e ∷ F) (set_right A B w m.1))

  pub lookup_left : (A B : Entries) → lookup t B ≡ None → lookup t (A ++ B) ≡ lookup t A
  lookup_left [] B none = none
  lookup_left (e ∷ A) B none = ap (cond (t e.0) (Some e.1)) (lookup_left A B none)

  remove_gone : (B : Entries) → lookup t B ≡ None → remove_entry t B ≡ B
  remove_gone [] none = refl
  remove_gone (e ∷ B) none = let m = missed e B none in rw m.0 (ap (λ F. e ∷ F) (remove_gone B m.1))

  pub remove_left : (A B : Entries) → lookup t B ≡ None → remove_entry t (A ++ B) ≡ remove_entry t A ++ B
  remove_left [] B none = remove_gone B none
  remove_left (e ∷ A) B none = elim (cases_Bool (t e.0)) [
    | inl h ↦ rw h refl
    | inr h ↦ rw h (ap (λ F. e ∷ F) (remove_left A B none))
  ]

  set_gone : (B : Entries) (w : Held) → lookup t B ≡ None → set_value t B w ≡ B
  set_gone [] w none = refl
  set_gone (e ∷ B) w none = let m = missed e B none in rw m.0 (ap (λ F. e ∷ F) (set_gone B w m.1))

  pub set_left : (A B : Entries) (w : Held) → lookup t B ≡ None → set_value t (A ++ B) w ≡ set_value t A w ++ B
  set_left [] B w none = set_gone B w none
  set_left (e ∷ A) B w none = elim (cases_Bool (t e.0)) [
    | inl h ↦ rw h refl
    | inr h ↦ rw h (ap (λ F. e ∷ F) (set_left A B w none))
  ]

-- no age is a
none_differ : (a : ℕ) (A : Entries) → All (λ (e : ℕ × Held). a ≢ e.0) A → lookup (is_at (nat_cmp a)) A ≡ None
none_differ a [] differ = refl
none_differ a (e ∷ A) differ =
    rw (at_other a e.0 (All-head (λ (e : ℕ × Held). a ≢ e.0) e A differ)) (none_differ a A (All-tail (λ (e : ℕ × Held). a ≢ e.0) e A differ))

-- ---- rising ages
pub rises_right : (A B : Entries) → Rises (A ++ B) → Rises B
rises_right [] B rises = rises
rises_right (e ∷ A) B rises = rises_right A B rises.1

all_right : (P : ℕ × Held → Type 0) (A B : Entries) → All P (A ++ B) → All P B
all_right P [] B all = all
all_right P (e ∷ A) B all = all_right P A B (All-tail P e (A ++ B) all)

-- those of the first list are below each of the second
before : (A B : Entries) (i : ℕ) (d : ℕ × Held) → Rises (A ++ B) → i < length B → EndsBelow A (get_or B i d).0
before [] B i d rises lt = All-nil (λ (e : ℕ × Held). e.0 < (get_or B i d).0)
before (e ∷ A) B i d rises lt =
    All-cons (λ (f : ℕ × Held). f.0 < (get_or B i d).0) e A (all_right (λ (f : ℕ × Held). e.0 < f.0) A B rises.0 i d lt) (before A B i d rises.1 lt)

rises_lt : (B : Entries) (i j : ℕ) (d : ℕ × Held) → Rises B → i < j → j < length B → (get_or B i d).0 < (get_or B j d).0
rises_lt [] i j d rises lt within = absurd (omega (arith, within))
rises_lt (e ∷ B) i zero d rises lt within = absurd (omega (arith, lt))
rises_lt (e ∷ B) zero (suc j) d rises lt within = rises.0 j d (omega (arith, within))
rises_lt (e ∷ B) (suc i) (suc j) d rises lt within = rises_lt B i j d rises.1 (omega (arith, lt)) (omega (arith, within))

-- what lies at a place is found under its age, taken out and written there
module _ (a : ℕ) where
  pub found_at : (B : Entries) (i : ℕ) (d : ℕ × Held) → Rises B → i < length B → (get_or B i d).0 ≡ a → lookup (is_at (nat_cmp a)) B ≡ Some (get_or B i d).1
  found_at [] i d rises lt is = absurd (omega (arith, lt))
  found_at (e ∷ B) zero d rises lt is = rw (at_same a e.0 (sym is)) refl
  found_at (e ∷ B) (suc i) d rises lt is =
      rw (at_later a e.0 (subst (λ n. e.0 < n) is (rises.0 i d (omega (arith, lt))))) (found_at B i d rises.1 (omega (arith, lt)) is)

  pub removed_at : (B : Entries) (i : ℕ) (d : ℕ × Held) → Rises B → i < length B → (get_or B i d).0 ≡ a → remove_entry (is_at (nat_cmp a)) B ≡ remove B i
  removed_at [] i d rises lt is = absurd (omega (arith, lt))
  removed_at (e ∷ B) zero d rises lt is = rw (at_same a e.0 (sym is)) refl
  removed_at (e ∷ B) (suc i) d rises lt is =
      rw (at_later a e.0 (subst (λ n. e.0 < n) is (rises.0 i d (omega (arith, lt)))))
      (ap (λ F. e ∷ F) (removed_at B i d rises.1 (omega (arith, lt)) is))

  pub set_at : (B : Entries) (i : ℕ) (d : ℕ × Held) (w : Held) → Rises B → i < length B → (get_or B i d).0 ≡ a → set_value (is_at (nat_cmp a)) B w ≡ slice_set B i (a, w)
  set_at [] i d w rises lt is = absurd (omega (arith, lt))
  set_at (e ∷ B) zero d w rises lt is = rw (at_same a e.0 (sym is)) (ap (λ n. (n, w) ∷ B) is)
  set_at (e ∷ B) (suc i) d w rises lt is =
      rw (at_later a e.0 (subst (λ n. e.0 < n) is (rises.0 i d (omega (arith, lt)))))
      (ap (λ F. e ∷ F) (set_at B i d w rises.1 (omega (arith, lt)) is))

-- an age of the second list is none of the first
none_before : (A B : Entries) (a i : ℕ) (d : ℕ × Held) → Rises (A ++ B) → IsPlaceOf B a i → lookup (is_at (nat_cmp a)) A ≡ None
none_before A B a i d rises place =
    none_differ a A (λ k f lt. let low = before A B i d rises place.0 k f lt in let is = place.1 d in omega (arith, low, is))

-- What the tree and the vector have, A and B, beside the entries E.
module _ (A B E : Entries) (is : A ++ B ≡ E) (rises : Rises E) (a : ℕ) where
  abbrev under : ℕ → Bool
  under = is_at (nat_cmp a)

  pub young_rises : Rises B
  young_rises = rises_right A B (subst Rises (sym is) rises)

  -- the row of this age is young: e stands at its place
  module _ (i : ℕ) (e : ℕ × Held) (place : IsPlaceOf B a i) where
    none : lookup under A ≡ None
    none = none_before A B a i e (subst Rises (sym is) rises) place

    pub young_found : e ≡ get_or B i e → lookup under E ≡ Some e.1
    young_found here =
        ap (lookup under) (sym is) ∙ lookup_right under A B none ∙ found_at a B i e young_rises place.0 (place.1 e) ∙ ap (λ (f : ℕ × Held). Some f.1) (sym here)

    pub young_removed : A ++ remove B i ≡ remove_entry under E
    young_removed = ap (λ F. A ++ F) (sym (removed_at a B i e young_rises place.0 (place.1 e))) ∙ sym (remove_right under A B none) ∙ ap (remove_entry under) is

    pub young_set : (w : Held) → A ++ slice_set B i (a, w) ≡ set_value under E w
    young_set w = ap (λ F. A ++ F) (sym (set_at a B i e w young_rises place.0 (place.1 e))) ∙ sym (set_right under A B w none) ∙ ap (λ F. set_value under F w) is

  -- it is not
  module _ (old : lookup under B ≡ None) where
    pub older_found : lookup under A ≡ lookup under E
    older_found = sym (lookup_left under A B old) ∙ ap (lookup under) is

    pub older_removed : (F : Entries) → F ≡ remove_entry under A → F ++ B ≡ remove_entry under E
    older_removed F removed = ap (λ G. G ++ B) removed ∙ sym (remove_left under A B old) ∙ ap (remove_entry under) is

    pub older_set : (F : Entries) (w : Held) → F ≡ set_value under A w → F ++ B ≡ set_value under E w
    older_set F w set = ap (λ G. G ++ B) set ∙ sym (set_left under A B w old) ∙ ap (λ G. set_value under G w) is

-- ---- a row that comes
insert_last : (E : Entries) (a : ℕ) (h : Held) → EndsBelow E a → insert_entry nat_cmp E a h ≡ E ++ (a, h) ∷ []
insert_last [] a h low = refl
insert_last (e ∷ E) a h low =
    let here : e.0 < a = All-head (λ (f : ℕ × Held). f.0 < a) e E low in
    rw (le-ltb a e.0 (omega (arith, here)), ne_eqb a e.0 (λ same. omega (arith, here, same)))
    (ap (λ F. e ∷ F) (insert_last E a h (All-tail (λ (f : ℕ × Held). f.0 < a) e E low)))

-- behind all others
pub pushed : (A B E : Entries) (a : ℕ) (h : Held) → A ++ B ≡ E → EndsBelow E a → A ++ (B ++ (a, h) ∷ []) ≡ insert_entry nat_cmp E a h
pushed A B E a h is low = sym (append_assoc A B ((a, h) ∷ [])) ∙ ap (λ F. F ++ (a, h) ∷ []) is ∙ sym (insert_last E a h low)

-- into the tree, where no row is young
pub put_whole : (A B F E : Entries) (a : ℕ) (h : Held) → A ++ B ≡ E → B ≡ [] → F ≡ insert_entry nat_cmp A a h → F ++ B ≡ insert_entry nat_cmp E a h
put_whole A B F E a h is none put =
    ap (λ G. F ++ G) none ∙ append-nil F ∙ put ∙ ap (λ G. insert_entry nat_cmp G a h) (sym (append-nil A) ∙ ap (λ G. A ++ G) (sym none) ∙ is)

-- the oldest of the young ones goes into the tree
pub settled : (A B : Entries) (e : ℕ × Held) → Rises (A ++ B) → 0 < length B → e ≡ get_or B 0 e → insert_entry nat_cmp A e.0 e.1 ++ remove B 0 ≡ A ++ B
settled A [] e rises some here = absurd (omega (arith, some))
settled A (f ∷ B) e rises some here =
    subst (λ (g : ℕ × Held). insert_entry nat_cmp A g.0 g.1 ++ B ≡ A ++ f ∷ B) (sym here)
    (ap (λ F. F ++ B) (insert_last A f.0 f.1 (before A (f ∷ B) 0 f rises (omega arith))) ∙ append_assoc A (f ∷ []) B)

-- ---- whether an age is above all others
stands : (E : Entries) (n : ℕ) (e : ℕ × Held) → slice_get E n ≡ Some e → (n < length E) × (get_or E n e ≡ e)
stands [] n e is = absurd cc
stands (f ∷ E) zero e is = (omega arith, cc)
stands (f ∷ E) (suc n) e is = let there = stands E n e is in (omega (arith, there.0), there.1)

none_stands : (E : Entries) (n : ℕ) → n < length E → slice_get E n ≡ None → {X : Type 0} → X
none_stands [] n lt none = absurd (omega (arith, lt))
none_stands (f ∷ E) zero lt none = absurd cc
none_stands (f ∷ E) (suc n) lt none = none_stands E n (omega (arith, lt)) none

get_or_within : (E : Entries) (k : ℕ) (f d : ℕ × Held) → k < length E → get_or E k f ≡ get_or E k d
get_or_within [] k f d lt = absurd (omega (arith, lt))
get_or_within (e ∷ E) zero f d lt = refl
get_or_within (e ∷ E) (suc k) f d lt = get_or_within E k f d (omega (arith, lt))

last_below : (E : Entries) (n a : ℕ) (d : ℕ × Held) → Rises E → length E ≡ n + 1 → (get_or E n d).0 < a → EndsBelow E a
last_below E n a d rises len below k f lt =
    subst (λ (e : ℕ × Held). e.0 < a) (sym (get_or_within E k f d lt))
    (elim (cases_lt k n) [
      | inl h ↦ let low = rises_lt E k n d rises h (omega (arith, len)) in omega (arith, low, below)
      | inr h ↦ subst (λ j. (get_or E j d).0 < a) (omega (arith, h, lt, len)) below
    ])

-- the last one of the vector is below
pub ends_young : (A B E : Entries) (a : ℕ) (e : ℕ × Held) → A ++ B ≡ E → Rises E → Some e ≡ slice_get B (length B - 1) → e.0 < a → EndsBelow E a
ends_young A B E a e is rises at below =
    let whole : Rises (A ++ B) = subst Rises (sym is) rises in
    let there = stands B (length B - 1) e (sym at) in
    let low : (get_or B (length B - 1) e).0 < a = subst (λ (f : ℕ × Held). f.0 < a) (sym there.1) below in
    subst (λ F. EndsBelow F a) is
    (All-append (λ (f : ℕ × Held). f.0 < a) A B (λ k f lt. let under = before A B (length B - 1) e whole there.0 k f lt in omega (arith, under, low))
    (last_below B (length B - 1) a e (rises_right A B whole) (omega (arith, there.0)) low))

-- the vector has none, and the last one of the tree is below
pub ends_older : (A B E : Entries) (a : ℕ) (e : ℕ × Held) → A ++ B ≡ E → Rises E → None ≡ slice_get B (length B - 1) → slice_get A (length A - 1) ≡ Some e → e.0 < a → EndsBelow E a
ends_older A [] E a e is rises none at below = ends_young [] A E a e (sym (append-nil A) ∙ is) rises (sym at) below
ends_older A (f ∷ B) E a e is rises none at below = none_stands (f ∷ B) (length (f ∷ B) - 1) (omega arith) (sym none)

-- ---- names
pub names-append : (A B : Entries) → names_of (values_of (A ++ B)) ≡ names_of (values_of A) ++ names_of (values_of B)
names-append [] B = refl
names-append (e ∷ A) B = ap (λ N. e.1.0 ∷ N) (names-append A B)

-- ---- a step of a schedule
pub can_step : (T : Recording) (a : ℕ) (step : Step) (E : Entries) (p : Held) → CanStep T a step E → lookup (is_at (nat_cmp a)) E ≡ Some p → (p.1.schedule.trace ≡ T) × (stepped step p.1.schedule ≢ None)
can_step T a step E p can at =
    let same : can.0 ≡ p = cc in
    subst (λ (q : Held). (q.1.schedule.trace ≡ T) × (stepped step q.1.schedule ≢ None)) same (can.2, can.3)

pub is_stepped : (a : ℕ) (step : Step) (E F : Entries) (q : Result Step Step) (p : Held) (t : Scheduled) → lookup (is_at (nat_cmp a)) E ≡ Some p
    → F ≡ set_value (is_at (nat_cmp a)) E (p.0, with_schedule p.1 t) → IfOk q (λ back. stepped step p.1.schedule ≡ Some t) → IfOk q (λ back. stepped back t ≡ Some p.1.schedule)
    → OnErr q (t ≡ p.1.schedule) → IsCorrectReordering p.1.schedule.trace.events p.1.schedule.events → IsStepped a step E F q
is_stepped a step E F q p t at set ok back err reordering = subst (λ o. IfSome o (StepsAt a step E F q)) (sym at) (t, set, ok, back, err, reordering)

-- ---- what a binary search by the ages finds
not_below : (x y : ℕ) (r : Ordering) → r ≡ nat_cmp x y → y < x → is_lt r ≡ false
not_below x y Less is above = let less : x < y = ranked x y Less is in absurd (omega (arith, less, above))
not_below x y Equal is above = refl
not_below x y Greater is above = refl

module _ (B : Entries) (rises : Rises B) (a : ℕ) where
  ages_rise : IsNonDecreasingBy (λ (e : ℕ × Held). ordering_index (nat_cmp e.0 a)) B
  ages_rise =
      searchable_from_sorted nat_cmp_total (λ (e : ℕ × Held). e.0) B a
      (λ k d _ next.
      not_below (get_or B (k + 1) d).0 (get_or B k d).0 (nat_cmp (get_or B (k + 1) d).0 (get_or B k d).0) refl (rises_lt B k (k + 1) d rises (omega arith) next))

  pub place-searched : (r : Result ℕ ℕ) → IsSearchInRange r (length B) → IsBinarySearchResult (λ (e : ℕ × Held). nat_cmp e.0 a) B r → IfOk r (IsPlaceOf B a)
  place-searched (Ok i) within found = (within, λ d. ranked (get_or B i d).0 a Equal (sym (found d)))
  place-searched (Err i) within found = tt

  pub none-searched : (r : Result ℕ ℕ) → IsSearchInRange r (length B) → IsBinarySearchResult (λ (e : ℕ × Held). nat_cmp e.0 a) B r → IfErr r (λ i. lookup (is_at (nat_cmp a)) B ≡ None)
  none-searched (Ok i) within found = tt
  none-searched (Err i) within found =
      none_differ a B (λ k d lt. elim (cases_lt k i) [
        | inl h ↦ let low = ranked (get_or B k d).0 a Less (sym ((found ages_rise).0 k d (omega arith) h)) in (λ same. omega (arith, low, same))
        | inr h ↦ let high = ranked (get_or B k d).0 a Greater (sym ((found ages_rise).1 k d h lt)) in (λ same. omega (arith, high, same))
      ])
