-- Numbers and bunches that grow.
use Rattle.std.proofs.Common.{◌≡◌, ◌≢◌, ℕ, ◌+◌, ◌<◌, ◌⊎◌, List, [], ◌∷◌, ◌++◌, All, Contains, length, slice_index, set, IfSome, Option, None, Some, refl, sym, ap, ◌∙◌, subst, arith, inl, inr, get_or-set_same, get_or-set_other, length-set, length-append}
use Rattle.std.specs.List.{slice_get}
use Rattle.std.proofs.lemmas.Bool.{cases_eq}
use Rattle.std.proofs.lemmas.List.{get_or_append_left}
use Rattle.std.proofs.lemmas.List.Elements.{All-contains, All-nil, All-push, All-same, All-weaker, Contains-append_left, Contains-push}
use Rattle.std.proofs.lemmas.Option.{get_or_from_slice_get, same_Some, slice_get-get_or, slice_get_within}
use Rattle.std.proofs.Math.Seq.{get_or-append_seam}
use Rattle.trace_rules.proofs.Counts.{slice_get-set}
use Rattle.race_groups.proofs.BuildLemmas.{All-from_slice_get, get_either}
use Rattle.race_groups.specs.least_pairs.Lanes.{IsBunch, IsInBunches, IsRising}
use Rattle.race_groups.specs.least_pairs.Making.{AreBunchesGrown, AreBunchesMore, IsOfBunch}
use Rattle.race_groups.specs.declared.least_pairs.lanes.Bunch.{Bunch}

-- what stands at a place is among the elements, and the other way round
pub Contains-from : {X : Type 0} (xs : List X) (k : ℕ) (x : X) → slice_get xs k ≡ Some x → Contains xs x
Contains-from xs k x at = (k, slice_get_within xs k x at, get_or_from_slice_get xs k x x at)

pub slice_get-from : {X : Type 0} (xs : List X) (x : X) → (there : Contains xs x) → slice_get xs there.0 ≡ Some x
slice_get-from xs x there = slice_get-get_or xs there.0 x there.1 ∙ ap Some there.2

-- what stands at a place after a write
pub set_here : {X : Type 0} (xs : List X) (k : ℕ) (x y : X) → slice_get xs k ≡ Some x → slice_get (set xs k y) k ≡ Some y
set_here xs k x y at =
    let low = slice_get_within xs k x at in
    slice_get-get_or (set xs k y) k x (omega (arith, low, length-set xs k y)) ∙ ap Some (get_or-set_same xs k y x low)

pub set_there : {X : Type 0} (xs : List X) (k j : ℕ) (x y : X) → j ≢ k → slice_get xs j ≡ Some x → slice_get (set xs k y) j ≡ Some x
set_there xs k j x y apart at =
    let low = slice_get_within xs j x at in
    slice_get-get_or (set xs k y) j x (omega (arith, low, length-set xs k y)) ∙ ap Some (get_or-set_other xs k j y x apart ∙ get_or_from_slice_get xs j x x at)

-- a place that stands in a list with one element more is one of the list, or the last
pub push_here : (xs : List ℕ) (y k : ℕ) → k ≡ length xs → slice_index (xs ++ y ∷ []) k ≡ y
push_here xs y k is = ap (slice_index (xs ++ y ∷ [])) is ∙ get_or-append_seam xs y [] 0

pub push_there : (xs : List ℕ) (y k : ℕ) → k < length xs → slice_index (xs ++ y ∷ []) k ≡ slice_index xs k
push_there xs y k low = get_or_append_left xs (y ∷ []) 0 k low

pub push_cases : (xs : List ℕ) (y k : ℕ) → k < length (xs ++ y ∷ []) → (k ≡ length xs) ⊎ (k < length xs)
push_cases xs y k lt =
    let more : length (xs ++ y ∷ []) ≡ length xs + 1 = length-append xs (y ∷ []) in
    elim (cases_eq k (length xs)) [ inl is ↦ inl is | inr ne ↦ inr (omega arith) ]

-- rising numbers, and one more behind them that is greater
pub rises_push : (xs : List ℕ) (y : ℕ) → IsRising xs → All (λ x. x < y) xs → IsRising (xs ++ y ∷ [])
rises_push xs y rising below i k lt within = elim (push_cases xs y k within) [
  | inl last ↦
      let low : i < length xs = omega arith in
      let at = push_here xs y k last in
      let under : slice_index xs i < y = below i 0 low in
      omega (arith, at, push_there xs y i low, under)
  | inr low ↦
      let less = rising i k lt low in
      omega (arith, push_there xs y i (omega arith), push_there xs y k low, less)
]

-- what holds of what is there, if anything is
pub if_some : (o : Option ℕ) (P Q : ℕ → Type 0) → ((n : ℕ) → P n → Q n) → IfSome o P → IfSome o Q
if_some None P Q more holds = holds
if_some (Some n) P Q more holds = more n holds

-- no event in a list with none
pub none_in : (xs : List ℕ) (e : ℕ) → xs ≡ [] → ¬ Contains xs e
none_in xs e none there =
    let len : length xs ≡ 0 = ap length none in
    let lt = there.1 in
    omega (arith, len, lt)

-- a bunch with no events
IsBunch-empty : (numbers events : List ℕ) (g : Bunch) → g.events.items ≡ [] → IsBunch numbers events g
IsBunch-empty numbers events g none = record {
  rising = λ i k lt within. (let len : length g.events.items ≡ 0 = ap length none in absurd (omega (arith, len, within)));
  among = All-same (Contains events) g.events.items [] none (All-nil (Contains events));
  of_class = All-same (λ e. slice_index numbers e ≡ g.class) g.events.items [] none (All-nil (λ e. slice_index numbers e ≡ g.class));
}

-- of more events
IsBunch-more : (numbers events : List ℕ) (event : ℕ) (g : Bunch) → IsBunch numbers events g → IsBunch numbers (events ++ event ∷ []) g
IsBunch-more numbers events event g is = record {
  rising = is.rising;
  among = All-weaker (Contains events) (Contains (events ++ event ∷ [])) (λ e there. Contains-append_left events (event ∷ []) e there) g.events.items is.among;
  of_class = is.of_class;
}

-- One bunch with one event more.
module _ (numbers events : List ℕ) (class event : ℕ) (old new : List Bunch) (b : AreBunchesMore class event old new)
    (are : All (IsBunch numbers events) old) (covered : All (IsInBunches old) events) (below : All (λ e. e < event) events) (mine : class ≡ slice_index numbers event) where
  was_is : IsBunch numbers events b.was
  was_is = elim b.known [
    | inl there ↦ All-contains (IsBunch numbers events) old b.was are there
    | inr none ↦ IsBunch-empty numbers events b.was none
  ]

  under : All (λ e. e < event) b.was.events.items
  under = All-weaker (Contains events) (λ e. e < event) (λ e there. All-contains (λ e. e < event) events e below there) b.was.events.items was_is.among

  more_is : IsBunch numbers (events ++ event ∷ []) b.more
  more_is = record {
    rising = subst IsRising (sym b.added) (rises_push b.was.events.items event was_is.rising under);
    among =
        All-same (Contains (events ++ event ∷ [])) b.more.events.items (b.was.events.items ++ event ∷ []) b.added
        (All-push (Contains (events ++ event ∷ [])) b.was.events.items event (IsBunch-more numbers events event b.was was_is).among (Contains-push events event));
    of_class =
        All-same (λ e. slice_index numbers e ≡ b.more.class) b.more.events.items (b.was.events.items ++ event ∷ []) b.added
        (All-push (λ e. slice_index numbers e ≡ b.more.class) b.was.events.items event
        (All-weaker (λ e. slice_index numbers e ≡ b.was.class) (λ e. slice_index numbers e ≡ b.more.class) (λ e is. is ∙ sym b.same_class) b.was.events.items was_is.of_class)
        (sym mine ∙ sym b.class_is ∙ sym b.same_class));
  }

  pub bunches_are : All (IsBunch numbers (events ++ event ∷ [])) new
  bunches_are = All-from_slice_get (IsBunch numbers (events ++ event ∷ [])) new (λ k g at. elim (b.each k g at) [
    | inl same ↦ subst (IsBunch numbers (events ++ event ∷ [])) (sym same) more_is
    | inr (inl there) ↦ IsBunch-more numbers events event g (All-contains (IsBunch numbers events) old g are there)
    | inr (inr none) ↦ IsBunch-empty numbers (events ++ event ∷ []) g none
  ])

  stays : (e : ℕ) → IsInBunches old e → IsInBunches new e
  stays e h = elim (b.kept h.bunch h.among) [
    | inl there ↦ record { bunch = h.bunch; among = there; at = h.at }
    | inr same ↦ record {
      bunch = b.more;
      among = Contains-from new b.number b.more b.there;
      at =
          subst (λ (xs : List ℕ). Contains xs e) (sym b.added)
          (Contains-append_left b.was.events.items (event ∷ []) e (subst (λ (g : Bunch). Contains g.events.items e) same h.at));
    }
  ]

  comes : IsInBunches new event
  comes = record {
    bunch = b.more;
    among = Contains-from new b.number b.more b.there;
    at = subst (λ (xs : List ℕ). Contains xs event) (sym b.added) (Contains-push b.was.events.items event);
  }

  pub bunches_cover : All (IsInBunches new) (events ++ event ∷ [])
  bunches_cover = All-push (IsInBunches new) events event (All-weaker (IsInBunches old) (IsInBunches new) stays events covered) comes

-- A bunch that was there, or came as an empty one, is put back with one event more.
module _ (class event at : ℕ) (old grown : List Bunch) (was more : Bunch) (are : AreBunchesGrown class old grown) (here : slice_get grown at ≡ Some was) where
  either : (k : ℕ) (g : Bunch) → slice_get grown k ≡ Some g → Contains old g ⊎ (g.events.items ≡ [])
  either k g is = elim are [
    | inl same ↦ inl (Contains-from old k g (ap (λ xs. slice_get xs k) (sym same) ∙ is))
    | inr one ↦ elim (get_either old one.bunch k g (ap (λ xs. slice_get xs k) (sym one.added) ∙ is)) [
      | inl there ↦ inl (Contains-from old k g there)
      | inr is_new ↦ inr (ap (λ (h : Bunch). h.events.items) (sym is_new) ∙ one.events)
    ]
  ]

  grows : (g : Bunch) → Contains old g → Contains grown g
  grows g there = elim are [
    | inl same ↦ subst (λ (xs : List Bunch). Contains xs g) (sym same) there
    | inr one ↦ subst (λ (xs : List Bunch). Contains xs g) (sym one.added) (Contains-append_left old (one.bunch ∷ []) g there)
  ]

  pub AreBunchesMore-set : was.class ≡ class → more.class ≡ was.class → more.events.items ≡ was.events.items ++ event ∷ [] → AreBunchesMore class event old (set grown at more)
  AreBunchesMore-set class_is same_class added = record {
    number = at;
    was = was;
    more = more;
    class_is = class_is;
    same_class = same_class;
    added = added;
    there = set_here grown at was more here;
    known = either at was here;
    each = λ k g is. elim (slice_get-set grown at k more g (slice_get_within grown at was here) is) [
      | inl mine ↦ inl (sym mine.1)
      | inr other ↦ inr (either k g other.1)
    ];
    kept = λ g there.
        let in_grown = grows g there in
        let k = in_grown.0 in
        let is = slice_get-from grown g in_grown in
        elim (cases_eq k at) [
          | inl same ↦ inr (same_Some g was (sym is ∙ ap (slice_get grown) same ∙ here))
          | inr apart ↦ inl (Contains-from (set grown at more) k g (set_there grown at k g more apart is))
        ];
  }

  -- the last event of the bunch was one of its class
  pub IsOfBunch-from : was.class ≡ class → (e : ℕ) → Contains was.events.items e → IsOfBunch old class e
  IsOfBunch-from class_is e there = elim (either at was here) [
    | inl known ↦ record { bunch = was; among = known; class_is = class_is; at = there }
    | inr none ↦ absurd (none_in was.events.items e none there)
  ]
