-- Classes and their members in the making.
use Rattle.std.proofs.Common.{◌≡◌, ℕ, zero, suc, ◌+◌, ◌<◌, ◌≤◌, ◌⊎◌, true, false, cond, List, [], ◌∷◌, ◌++◌, Vec, filter, length, slice_index, set, Option, Some, refl, sym, ap, ◌∙◌, subst, arith, inl, inr, add-one, append-nil, All, ◌==◌, eqb-true}
use Rattle.std.specs.List.{slice_get}
use Rattle.std.specs.Option.{option_map}
use Rattle.std.proofs.lemmas.List.Elements.{All-nil, All-cons, All-get_or}
use Rattle.std.specs.declared.alloc.Global.{Global}
use Rattle.std.proofs.lemmas.Bool.{cases_eq, cases_Bool, or_cases, true≢false}
use Rattle.std.proofs.lemmas.List.{length-append}
use Rattle.std.proofs.lemmas.Option.{same_Some, slice_get_within, get_or_from_slice_get}
use Rattle.rapid_text.specs.declared.event.Event.{Event}
use Rattle.rapid_text.specs.declared.event.Op.{Op}
use Rattle.rapid_text.specs.declared.event.Op.TheVariants.{Read, Write, Acquire, Release, Fork, Join}
use Rattle.rapid_text.specs.Recording.{Recording, IsWellFormed, IsNamed, IsNamedOp}
use Rattle.event_index.specs.Events.{op_at}
use Rattle.event_index.specs.Lookups.{before}
use Rattle.event_index.specs.Relations.{is_access}
use Rattle.event_index.proofs.CallerLemmas.{filter_more_before, op_event}
use Rattle.trace_rules.proofs.Counts.{slice_get-set}
use Rattle.race_groups.specs.Building.{AreAlike, AreNumbered, AreMembersBelow, IsGrown, IsRenumbered}
use Rattle.race_groups.specs.Holding.{AreLocksOf}
use Rattle.race_groups.specs.Classes.{accesses, AreClasses, AreLocks}
use Rattle.race_groups.specs.declared.class.Class.{Class}

pub length-cons : {X : Type 0} (x : X) (xs : List X) → length (x ∷ xs) ≡ length xs + 1
length-cons x xs = sym (add-one (length xs))

index_before : (xs : List ℕ) (c e : ℕ) → e < length xs → slice_index (xs ++ c ∷ []) e ≡ slice_index xs e
index_before [] c e lt = absurd (omega arith)
index_before (x ∷ xs) c zero lt = refl
index_before (x ∷ xs) c (suc e) lt = index_before xs c e (omega (arith, length-cons x xs))

index_last : (xs : List ℕ) (c : ℕ) → slice_index (xs ++ c ∷ []) (length xs) ≡ c
index_last [] c = refl
index_last (x ∷ xs) c = index_last xs c

pub get_before : {X : Type 0} (xs : List X) (y : X) (k : ℕ) (x : X) → slice_get xs k ≡ Some x → slice_get (xs ++ y ∷ []) k ≡ Some x
get_before [] y k x at = cc
get_before (z ∷ xs) y zero x at = at
get_before (z ∷ xs) y (suc k) x at = get_before xs y k x at

-- an element of the longer list is one of the shorter, or the last
pub get_either : {X : Type 0} (xs : List X) (y : X) (k : ℕ) (x : X) → slice_get (xs ++ y ∷ []) k ≡ Some x → (slice_get xs k ≡ Some x) ⊎ (y ≡ x)
get_either [] y zero x at = inr cc
get_either [] y (suc k) x at = cc
get_either (z ∷ xs) y zero x at = inl at
get_either (z ∷ xs) y (suc k) x at = get_either xs y k x at

-- the locks of an event stay in a list of lists that grows
AreLocksOf-grown : (T : List Event) (lists further : List (Vec ℕ Global)) (e n : ℕ) → IsGrown lists further → AreLocksOf T lists e n → AreLocksOf T further e n
AreLocksOf-grown T lists further e n grown of = record { locks = of.locks; at = grown.kept n of.locks of.at; held = of.held; lent = of.lent }

module _ (T : List Event) (place : ℕ → ℕ) (n : ℕ) (numbers : List ℕ) (infos after : List Class) (lists further : List (Vec ℕ Global)) (c : ℕ) (class : Class) (are : AreNumbered T place n numbers infos lists) (found : slice_get after c ≡ Some class) (op : op_at T n ≡ Some class.op) (located : class.place ≡ place n) (grown : IsGrown lists further) (locks : (x : ℕ) → is_access x class.op ≡ true → AreLocksOf T further n class.held) where
  -- the classes after one more event
  numbered : ((k : ℕ) (x : Class) → slice_get infos k ≡ Some x → slice_get after k ≡ Some x)
      → length after ≤ length infos + 1
      → ((k : ℕ) (i : Class) → slice_get after k ≡ Some i → (slice_get infos k ≡ Some i) ⊎ (class ≡ i))
      → AreNumbered T place (n + 1) (numbers ++ c ∷ []) after further
  numbered kept few either = record {
    len = length-append numbers (c ∷ []) ∙ ap (λ m. m + 1) are.len;
    few = omega (arith, are.few, few);
    few_lists = omega (arith, are.few_lists, grown.few);
    classes = λ e lt. elim (cases_eq e n) [
      | inl is ↦
          let here : slice_index (numbers ++ c ∷ []) e ≡ c = ap (slice_index (numbers ++ c ∷ [])) (is ∙ sym are.len) ∙ index_last numbers c in
          record {
            info = class;
            at = ap (slice_get after) here ∙ found;
            op = ap (op_at T) is ∙ op;
            located = located ∙ ap place (sym is);
            locks = λ x accessed. subst (λ k. AreLocksOf T further k class.held) (sym is) (locks x accessed);
          }
      | inr ne ↦
          let low : e < n = omega arith in
          let old = are.classes e low in
          let there : slice_index (numbers ++ c ∷ []) e ≡ slice_index numbers e = index_before numbers c e (omega (arith, are.len)) in
          record {
            info = old.info;
            at = ap (slice_get after) there ∙ kept (slice_index numbers e) old.info old.at;
            op = old.op;
            located = old.located;
            locks = λ x accessed. AreLocksOf-grown T lists further e old.info.held grown (old.locks x accessed);
          }
    ];
    used = λ k i at. elim (either k i at) [
      | inl old ↦ are.used k i old
      | inr is ↦ (n, op ∙ ap (λ (j : Class). Some j.op) is)
    ];
  }

  pub AreNumbered-push : (after ≡ infos) ⊎ (after ≡ infos ++ class ∷ []) → AreNumbered T place (n + 1) (numbers ++ c ∷ []) after further
  AreNumbered-push (inl is) =
      numbered (λ k x at. ap (λ xs. slice_get xs k) is ∙ at) (omega (arith, ap length is)) (λ k i at. inl (ap (λ xs. slice_get xs k) (sym is) ∙ at))
  AreNumbered-push (inr is) =
      numbered (λ k x at. ap (λ xs. slice_get xs k) is ∙ get_before infos class k x at)
      (omega (arith, ap length is, length-append infos (class ∷ []), length-cons class []))
      (λ k i at. get_either infos class k i (ap (λ xs. slice_get xs k) (sym is) ∙ at))

-- a list whose elements are all below a bound
all_below : (xs : List ℕ) (m : ℕ) → ((e : ℕ) → e < length xs → slice_index xs e < m) → All (λ c. c < m) xs
all_below [] m below = All-nil (λ c. c < m)
all_below (x ∷ xs) m below =
    All-cons (λ c. c < m) x xs (below 0 (omega (arith, length-cons x xs))) (all_below xs m (λ e lt. below (suc e) (omega (arith, length-cons x xs))))

op_of : (o : Option Op) (w : Op) (i j : Class) → o ≡ Some w → o ≡ Some i.op → Some i ≡ Some j → j.op ≡ w
op_of o w i j of is same = cc

place_is : (i j : Class) → Some i ≡ Some j → j.place ≡ i.place
place_is i j same = cc

op_is : (T : List Event) (e : ℕ) (v : Event) → slice_get T e ≡ Some v → op_at T e ≡ Some v.op
op_is T e v at = ap (option_map (λ (w : Event). w.op)) at

locks_of : (T : List Event) (lists : List (Vec ℕ Global)) (e x : ℕ) (i j : Class) → Some i ≡ Some j → ((y : ℕ) → is_access y i.op ≡ true → AreLocksOf T lists e i.held) → is_access x j.op ≡ true → AreLocksOf T lists e j.held
locks_of T lists e x i j same locks accessed =
    let is : i ≡ j = same_Some i j same in
    subst (λ (k : Class). is_access x k.op ≡ true → AreLocksOf T lists e k.held) is (locks x) accessed

pub All-from_slice_get : {X : Type 0} (P : X → Type 0) (xs : List X) → ((k : ℕ) (x : X) → slice_get xs k ≡ Some x → P x) → All P xs
All-from_slice_get P [] holds = All-nil P
All-from_slice_get P (x ∷ xs) holds = All-cons P x xs (holds 0 x refl) (All-from_slice_get P xs (λ k y at. holds (suc k) y at))

access_named : (r : Recording) (x : ℕ) (op : Op) → IsNamedOp r op → is_access x op ≡ true → x < length r.variables
access_named r x (Read y) named accessed =
    elim (or_cases (y == x) false accessed) [
      | inl holds ↦ let is : y ≡ x = eqb-true y x holds in omega (arith, named, is)
      | inr fails ↦ absurd (true≢false (sym fails))
    ]
access_named r x (Write y) named accessed = let is : y ≡ x = eqb-true y x accessed in omega (arith, named, is)
access_named r x (Acquire l) named accessed = absurd (true≢false (sym accessed))
access_named r x (Release l) named accessed = absurd (true≢false (sym accessed))
access_named r x (Fork u) named accessed = absurd (true≢false (sym accessed))
access_named r x (Join u) named accessed = absurd (true≢false (sym accessed))

-- when all events have one
module _ (T : List Event) (place : ℕ → ℕ) (numbers : List ℕ) (infos : List Class) (lists : List (Vec ℕ Global)) (are : AreNumbered T place (length T) numbers infos lists) where
  are_within : (e : ℕ) → e < length T → slice_index numbers e < length infos
  are_within e lt = let old = are.classes e lt in slice_get_within infos (slice_index numbers e) old.info old.at

  pub AreClasses-from : AreClasses T place numbers infos
  AreClasses-from = record {
    len = are.len;
    within = all_below numbers (length infos) (λ e lt. are_within e (omega (arith, are.len)));
    op = λ e v i at info.
        let old = are.classes e (slice_get_within T e v at) in
        op_of (op_at T e) v.op old.info i (op_is T e v at) old.op (sym old.at ∙ info);
    located = λ e i lt info.
        let old = are.classes e lt in
        place_is old.info i (sym old.at ∙ info) ∙ old.located;
  }

  pub AreLocks-from : AreLocks T lists numbers infos
  AreLocks-from = λ e x i lt info accessed.
      let old = are.classes e lt in
      locks_of T lists e x old.info i (sym old.at ∙ info) old.locks accessed

-- one more event has the same class by both
pub AreAlike-push : (numbers : List ℕ) (infos : List Class) (after : List ℕ) (made : List Class) (n c : ℕ) (i : Class) → length after ≡ n → AreAlike numbers infos after made n
    → slice_get infos (slice_index numbers n) ≡ Some i → slice_get made c ≡ Some i → AreAlike numbers infos (after ++ c ∷ []) made (n + 1)
AreAlike-push numbers infos after made n c i long are one other e lt =
    elim (cases_eq e n) [
      | inl is ↦ (
        i,
        ap (λ k. slice_get infos (slice_index numbers k)) is ∙ one,
        ap (slice_get made) (ap (slice_index (after ++ c ∷ [])) (is ∙ sym long) ∙ index_last after c) ∙ other,
      )
      | inr ne ↦
          let old = are e (omega (arith, lt, ne)) in
          (old.0, old.1, ap (slice_get made) (index_before after c e (omega (arith, lt, ne, long))) ∙ old.2)
    ]

-- the same classes in another order
pub AreNumbered-again : (T : List Event) (place : ℕ → ℕ) (n : ℕ) (numbers : List ℕ) (infos : List Class) (lists : List (Vec ℕ Global)) (after : List ℕ) (made : List Class)
    → AreNumbered T place n numbers infos lists → IsRenumbered numbers infos after made → AreNumbered T place n after made lists
AreNumbered-again T place n numbers infos lists after made are again = record {
  len = again.len ∙ are.len;
  few = omega (arith, are.few, again.few);
  few_lists = are.few_lists;
  classes = λ e lt.
      let old = are.classes e lt in
      let both = again.alike e (omega (arith, lt, are.len)) in
      let same : old.info ≡ both.0 = same_Some old.info both.0 (sym old.at ∙ both.1) in
      record {
        info = old.info;
        at = both.2 ∙ ap Some (sym same);
        op = old.op;
        located = old.located;
        locks = old.locks;
      };
  used = λ k i at. let found = again.elements k i at in are.used found.0 i found.1;
}

-- the members of a class's variable with it, those of others without
pub members_with : (infos : List Class) (n : ℕ) (x : ℕ) (i : Class) → slice_get infos n ≡ Some i → is_access x i.op ≡ true
    → filter (λ c. accesses x (slice_get infos c)) (before (n + 1)) ≡ filter (λ c. accesses x (slice_get infos c)) (before n) ++ n ∷ []
members_with infos n x i at yes_it =
    filter_more_before (λ c. accesses x (slice_get infos c)) n
    ∙ ap (λ b. filter (λ c. accesses x (slice_get infos c)) (before n) ++ cond b (n ∷ []) []) (ap (accesses x) at ∙ yes_it)

pub members_without : (infos : List Class) (n : ℕ) (x : ℕ) (i : Class) → slice_get infos n ≡ Some i → is_access x i.op ≡ false
    → filter (λ c. accesses x (slice_get infos c)) (before (n + 1)) ≡ filter (λ c. accesses x (slice_get infos c)) (before n)
members_without infos n x i at no_it =
    filter_more_before (λ c. accesses x (slice_get infos c)) n
    ∙ ap (λ b. filter (λ c. accesses x (slice_get infos c)) (before n) ++ cond b (n ∷ []) []) (ap (accesses x) at ∙ no_it)
    ∙ append-nil (filter (λ c. accesses x (slice_get infos c)) (before n))

-- one class more of its variable
module _ (infos : List Class) (members : List (Vec ℕ Global)) (n : ℕ) (i : Class) (at : slice_get infos n ≡ Some i) (are : AreMembersBelow infos n members) where
  no_access : (y : ℕ) → ¬ (is_access y i.op ≡ true) → is_access y i.op ≡ false
  no_access y fails = elim (cases_Bool (is_access y i.op)) [ inl holds ↦ absurd (fails holds) | inr is ↦ is ]

  pub AreMembersBelow-none : ((x : ℕ) → is_access x i.op ≡ false) → AreMembersBelow infos (n + 1) members
  AreMembersBelow-none none x v found = are x v found ∙ sym (members_without infos n x i at (none x))

  pub AreMembersBelow-push : (x : ℕ) (u w : Vec ℕ Global) → is_access x i.op ≡ true → ((y : ℕ) → is_access y i.op ≡ true → y ≡ x)
      → slice_get members x ≡ Some u → w.items ≡ u.items ++ n ∷ [] → AreMembersBelow infos (n + 1) (set members x w)
  AreMembersBelow-push x u w accessed one is more y v found =
      elim (slice_get-set members x y w v (slice_get_within members x u is) found) [
        | inl mine ↦
            ap (λ (t : Vec ℕ Global). t.items) (sym mine.1)
            ∙ more
            ∙ ap (λ xs. xs ++ n ∷ []) (are x u is)
            ∙ sym (members_with infos n x i at accessed)
            ∙ ap (λ z. filter (λ c. accesses z (slice_get infos c)) (before (n + 1))) (sym mine.0)
        | inr other ↦ are y v other.1 ∙ sym (members_without infos n y i at (no_access y (λ access. other.0 (one y access))))
      ]

-- one list more, an empty one
pub AreMembersBelow-begin : (infos : List Class) (members : List (Vec ℕ Global)) (w : Vec ℕ Global) → AreMembersBelow infos 0 members → w.items ≡ [] → AreMembersBelow infos 0 (members ++ w ∷ [])
AreMembersBelow-begin infos members w are empty x v found =
    elim (get_either members w x v found) [
      | inl old ↦ are x v old
      | inr is ↦ ap (λ (t : Vec ℕ Global). t.items) (sym is) ∙ empty
    ]

-- before the first event there is no class
pub AreNumbered-begin : (T : List Event) (place : ℕ → ℕ) → AreNumbered T place 0 [] [] []
AreNumbered-begin T place = record {
  len = refl;
  few = omega arith;
  few_lists = omega arith;
  classes = λ e lt. absurd (omega arith);
  used = λ k i at. cc;
}

-- each class is that of an event, so what it accesses has a name
pub classes_named : (r : Recording) → IsWellFormed r → (place : ℕ → ℕ) (n : ℕ) (numbers : List ℕ) (infos : List Class) (lists : List (Vec ℕ Global)) → AreNumbered r.events place n numbers infos lists
    → (x : ℕ) → All (λ i. is_access x i.op ≡ true → x < length r.variables) infos
classes_named r formed place n numbers infos lists are x =
    All-from_slice_get (λ (i : Class). is_access x i.op ≡ true → x < length r.variables) infos
    (λ k i at accessed.
    let event = are.used k i at in
    let found = op_event r.events event.0 i.op event.1 in
    let named : IsNamed r found.0 =
    subst (IsNamed r) (get_or_from_slice_get r.events event.0 found.0 found.0 found.1) (All-get_or (IsNamed r) r.events event.0 found.0 (slice_get_within r.events event.0 found.0 found.1) formed.named)
    in access_named r x i.op (subst (IsNamedOp r) found.2 named.1) accessed)
