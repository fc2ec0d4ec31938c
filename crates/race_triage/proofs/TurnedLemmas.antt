-- What the searches for a schedule find is one, and more steps find it too.
use Rattle.std.proofs.Common.{◌≡◌, ℕ, zero, suc, ◌+◌, ◌-◌, ◌<◌, ◌≤◌, ◌⊎◌, Bool, true, false, List, ◌++◌, ◌∷◌, [], length, Option, Some, None, refl, sym, ap, ◌∙◌, subst, arith, inl, inr}
use Rattle.std.specs.Prelude.{option_map, find}
use Rattle.std.proofs.lemmas.Bool.{cases_Bool, cases_lt}
use Rattle.std.proofs.lemmas.Option.{none-some, same_Some}
use Rattle.rapid_text.specs.declared.event.Event.{Event}
use Rattle.event_index.specs.Least.{IsLeastOf as IsLeastNumber}
use Rattle.event_index.specs.Lookups.{before}
use Rattle.event_index.proofs.CallerLemmas.{find_cases, find-least}
use Rattle.schedule.specs.Shows.{does_show}
use Rattle.witness_search.specs.Greedy.{after_steps, first_shown, followed_by, next_step, IsGreedyRun}
use Rattle.witness_search.specs.trace_order.Counting.{IsLeft}
use Rattle.witness_search.specs.trace_order.InOrder.{AreNeeded, IsBaseOfPair}
use Rattle.witness_search.specs.trace_order.Orders.{before_sections, without_sections, without_steps, HasNoFront, IsSearchedAgain, IsSearchedBefore, IsSearchedFirst, IsSearchedTwice, IsThen, IsTurned}
use Rattle.witness_search.proofs.RisingLemmas.{rising-unique}
use Rattle.witness_search.proofs.StepLemmas.{first_shown-stuck, IsSearched}
use Rattle.witness_search.proofs.trace_order.FrontLemmas.{IsFront-unique}
use Rattle.witness_search.proofs.trace_order.LeftLemmas.{longer_by_one, stays}

-- the first list that shows the pair is the first of more lists, too
module _ (T : List Event) (a b : ℕ) (N P : List ℕ) (budget more : ℕ) (Q : List ℕ) (le : budget ≤ more) where
  abbrev shown : ℕ → Bool
  shown j = does_show T (after_steps T a b N P j) a b

  found_among : (o : Option ℕ) → IsLeastNumber (λ e. (e < budget + 1) × (shown e ≡ true)) o → option_map (after_steps T a b N P) o ≡ Some Q → find shown (before (more + 1)) ≡ o
  found_among None least none = cc none
  found_among (Some j) least some =
      find-least shown (more + 1) (Some j) (
        (omega (arith, least.0.0, le), least.0.1),
        λ e h. elim (cases_lt e j) [
          | inl early ↦ let up = least.1 e (omega (arith, early, least.0.0), h.1) in absurd (omega (arith, early, up))
          | inr late ↦ late
        ],
      )

  pub first_shown-more : first_shown T a b N P budget ≡ Some Q → first_shown T a b N P more ≡ Some Q
  first_shown-more is =
      let found : Option ℕ = find shown (before (budget + 1)) in
      ap (option_map (after_steps T a b N P)) (found_among found (find_cases shown (budget + 1) found refl) is) ∙ is

-- what is needed is one list
pub AreNeeded-unique : (T : List Event) (start : ℕ → Type 0) (P Q : List ℕ) → AreNeeded T start P → AreNeeded T start Q → P ≡ Q
AreNeeded-unique T start P Q one other =
    rising-unique P Q one.rising other.rising (λ e has. (other.members e).1 ((one.members e).0 has)) (λ e has. (one.members e).1 ((other.members e).0 has))

-- two results are one, and leave as many steps where nothing is found
abbrev AreOne : Option (List ℕ) → Option (List ℕ) → ℕ → ℕ → Type 0
AreOne f g m n = (f ≡ g) × (f ≡ None → m ≡ n)

module _ (T : List Event) (a b : ℕ) where
  run_unique : (S R : List ℕ) (budget : ℕ) (f g : Option (List ℕ)) (m n : ℕ) → S ≡ R → IsGreedyRun T S a b budget f m → IsGreedyRun T R a b budget g n → AreOne f g m n
  run_unique S R budget f g m n same one other =
      let wanted : one.wanted ≡ other.wanted =
      rising-unique one.wanted other.wanted one.are_wanted.rising other.are_wanted.rising (λ e has. (other.are_wanted.members e).1 ((one.are_wanted.members e).0 has))
      (λ e has. (one.are_wanted.members e).1 ((other.are_wanted.members e).0 has))
      in
      let shown : first_shown T a b one.wanted S budget ≡ first_shown T a b other.wanted R budget =
      ap (λ (N : List ℕ). first_shown T a b N S budget) wanted ∙ ap (λ (L : List ℕ). first_shown T a b other.wanted L budget) same in
      let long : length (after_steps T a b one.wanted S budget) ≡ length (after_steps T a b other.wanted R budget) =
      ap (λ (N : List ℕ). length (after_steps T a b N S budget)) wanted ∙ ap (λ (L : List ℕ). length (after_steps T a b other.wanted L budget)) same in
      let size : length S ≡ length R = ap (λ (L : List ℕ). length L) same in
      let found : f ≡ g = one.is ∙ shown ∙ sym other.is in
      (found, λ none. omega (arith, one.steps none, other.steps (sym found ∙ none), long, size))

  first_unique : (budget : ℕ) (f g : Option (List ℕ)) (m n : ℕ) → IsSearchedFirst T a b budget f m → IsSearchedFirst T a b budget g n → AreOne f g m n
  first_unique budget f g m n one other =
      run_unique one.start other.start budget f g m n (AreNeeded-unique T _ one.start other.start one.needed other.needed) one.run other.run

  before_unique : (budget : ℕ) (f g : Option (List ℕ)) (m n : ℕ) → IsSearchedBefore T a b budget f m → IsSearchedBefore T a b budget g n → AreOne f g m n
  before_unique budget f g m n one other =
      let first : one.first ≡ other.first = IsFront-unique T a one.first other.first one.first_front other.first_front in
      let second : one.second ≡ other.second = IsFront-unique T b one.second other.second one.second_front other.second_front in
      let needed : AreNeeded T (IsBaseOfPair T other.first other.second) one.start =
      subst (λ y. AreNeeded T (IsBaseOfPair T other.first y) one.start) second (subst (λ x. AreNeeded T (IsBaseOfPair T x one.second) one.start) first one.needed) in
      run_unique one.start other.start budget f g m n (AreNeeded-unique T (IsBaseOfPair T other.first other.second) one.start other.start needed other.needed) one.run other.run

  again_unique : (budget : ℕ) (f g : Option (List ℕ)) (m n : ℕ) → IsSearchedAgain T a b budget f m → IsSearchedAgain T a b budget g n → AreOne f g m n
  again_unique budget f g m n (without_steps z none is) (without_steps y other also) = (none ∙ sym other, λ _. is ∙ sym also)
  again_unique budget f g m n (without_steps z none is) (without_sections y other also) = (none ∙ sym other, λ _. is ∙ sym also)
  again_unique budget f g m n (without_steps z none is) (before_sections some y other) = absurd (omega (arith, z, some))
  again_unique budget f g m n (without_sections z none is) (without_steps y other also) = (none ∙ sym other, λ _. is ∙ sym also)
  again_unique budget f g m n (without_sections z none is) (without_sections y other also) = (none ∙ sym other, λ _. is ∙ sym also)
  again_unique budget f g m n (without_sections z none is) (before_sections some y other) = absurd (y z)
  again_unique budget f g m n (before_sections some z one) (without_steps y other also) = absurd (omega (arith, y, some))
  again_unique budget f g m n (before_sections some z one) (without_sections y other also) = absurd (z y)
  again_unique budget f g m n (before_sections some z one) (before_sections more y other) = before_unique budget f g m n one other

  then_unique : (one two : Option (List ℕ)) (p q : ℕ) (f g : Option (List ℕ)) (m n : ℕ) → AreOne one two p q → IsThen T a b one p f m → IsThen T a b two q g n → AreOne f g m n
  then_unique None None p q f g m n same is also = again_unique q f g m n (subst (λ k. IsSearchedAgain T a b k f m) (same.1 refl) is) also
  then_unique None (Some Q) p q f g m n same is also = absurd (none-some Q same.0)
  then_unique (Some P) None p q f g m n same is also = absurd (none-some P (sym same.0))
  then_unique (Some P) (Some Q) p q f g m n same is also = (is ∙ same.0 ∙ sym also, λ none. absurd (none-some P (sym none ∙ is)))

  twice_unique : (budget : ℕ) (f g : Option (List ℕ)) (m n : ℕ) → IsSearchedTwice T a b budget f m → IsSearchedTwice T a b budget g n → AreOne f g m n
  twice_unique budget f g m n one other =
      then_unique one.one other.one one.rest other.rest f g m n (first_unique budget one.one other.one one.rest other.rest one.first other.first) one.then other.then

  pub IsTurned-unique : (budget : ℕ) (f g : Option (List ℕ)) → IsTurned T a b budget f → IsTurned T a b budget g → f ≡ g
  IsTurned-unique budget f g (inl (conflict, m, one)) (inl (clash, n, other)) = (twice_unique budget f g m n one other).0
  IsTurned-unique budget f g (inl one) (inr other) = absurd (other.0 one.0)
  IsTurned-unique budget f g (inr one) (inl other) = absurd (one.0 other.0)
  IsTurned-unique budget f g (inr one) (inr other) = one.1 ∙ sym other.1

  pub IsLeft-unique : (budget m n : ℕ) → IsLeft T a b budget m → IsLeft T a b budget n → m ≡ n
  IsLeft-unique budget m n one other = (twice_unique budget None None m n one other).1 refl

-- a search that leaves steps is stuck
module _ (T : List Event) (a b : ℕ) (N P : List ℕ) where
  abbrev after : ℕ → List ℕ
  after j = after_steps T a b N P j

  abbrev Stands : List ℕ → ℕ → Type 0
  Stands Q n = (length Q ≡ n) ⊎ (next_step T a b N Q ≡ None)

  long_or_stuck : (j : ℕ) → Stands (after j) (length P + j)
  unfolding after_steps
  long_or_stuck zero = inl (omega arith)
  long_or_stuck (suc j) = elim (long_or_stuck j) [
    | inl long ↦ by_next (next_step T a b N (after j)) refl long
    | inr stuck ↦ inr (subst (λ (o : Option ℕ). next_step T a b N (followed_by (after j) o) ≡ None) (sym stuck) stuck)
  ]
    where
      by_next : (o : Option ℕ) → next_step T a b N (after j) ≡ o → length (after j) ≡ length P + j → Stands (followed_by (after j) (next_step T a b N (after j))) (length P + suc j)
      by_next None is long = inr (subst (λ (o : Option ℕ). next_step T a b N (followed_by (after j) o) ≡ None) (sym is) is)
      by_next (Some e) is long =
          inl (ap (λ (o : Option ℕ). length (followed_by (after j) o)) is ∙ longer_by_one (after j) e (length P + j) long ∙ omega arith)

  stuck_by : (budget left : ℕ) → length (after budget) + left ≡ length P + budget → 0 < left → next_step T a b N (after budget) ≡ None
  stuck_by budget left steps some = elim (long_or_stuck budget) [ inl long ↦ absurd (omega (arith, long, steps, some)) | inr stuck ↦ stuck ]

  abbrev shown_at : ℕ → Bool
  shown_at j = does_show T (after j) a b

  -- where no list is found, none of the lists shows the pair
  hidden : (budget : ℕ) → first_shown T a b N P budget ≡ None → (j : ℕ) → j < budget + 1 → shown_at j ≡ false
  hidden budget none j low = by_found (find shown_at (before (budget + 1))) refl
    where
      by_found : (o : Option ℕ) → find shown_at (before (budget + 1)) ≡ o → shown_at j ≡ false
      by_found None is = elim (cases_Bool (shown_at j)) [
        | inl has ↦ absurd (find_cases shown_at (budget + 1) None is j (low, has))
        | inr has_not ↦ has_not
      ]
      by_found (Some k) is = absurd (none-some (after k) (sym none ∙ ap (option_map after) is))

  searched : (budget : ℕ) → first_shown T a b N P budget ≡ None → IsSearched T a b N P budget (after budget)
  searched budget none = record { here = refl; hidden = λ j low. hidden budget none j (omega (arith, low)) }

  module _ (budget more left : ℕ) (le : budget ≤ more) (none : first_shown T a b N P budget ≡ None) (steps : length (after budget) + left ≡ length P + budget) (some : 0 < left) where
    stuck : next_step T a b N (after budget) ≡ None
    stuck = stuck_by budget left steps some

    pub still_none : first_shown T a b N P more ≡ None
    still_none = first_shown-stuck (searched budget none) more (hidden budget none budget (omega arith)) stuck

    pub steps_more : length (after more) + (left + (more - budget)) ≡ length P + more
    steps_more =
        let whole : more ≡ budget + (more - budget) = omega (arith, le) in
        let same : length (after more) ≡ length (after budget) =
        ap (λ j. length (after j)) whole ∙ ap (λ (Q : List ℕ). length Q) (stays T a b N P budget (after budget) (searched budget none) stuck (more - budget)) in
        omega (arith, same, steps, le)

module _ (T : List Event) (a b budget more : ℕ) (le : budget ≤ more) where
  run_more-none : (S : List ℕ) (left : ℕ) → 0 < left → IsGreedyRun T S a b budget None left → IsGreedyRun T S a b more None (left + (more - budget))
  run_more-none S left some run = record {
    wanted = run.wanted;
    are_wanted = run.are_wanted;
    is = sym (still_none T a b run.wanted S budget more left le (sym run.is) (run.steps refl) some);
    steps = λ _. steps_more T a b run.wanted S budget more left le (sym run.is) (run.steps refl) some;
  }

  run_more-some : (S P : List ℕ) (left : ℕ) → IsGreedyRun T S a b budget (Some P) left → IsGreedyRun T S a b more (Some P) 0
  run_more-some S P left run = record {
    wanted = run.wanted;
    are_wanted = run.are_wanted;
    is = sym (first_shown-more T a b run.wanted S budget more P le (sym run.is));
    steps = λ none. absurd (none-some P (sym none));
  }

-- what is found with fewer steps is found with more
module _ (T : List Event) (a b : ℕ) where
  again_more : (budget more : ℕ) (P : List ℕ) (left : ℕ) → budget ≤ more → IsSearchedAgain T a b budget (Some P) left
      → (0 < budget) × (¬ HasNoFront T a b) × IsSearchedBefore T a b more (Some P) 0
  again_more budget more P left le (without_steps z none is) = absurd (none-some P (sym none))
  again_more budget more P left le (without_sections z none is) = absurd (none-some P (sym none))
  again_more budget more P left le (before_sections some h one) = (
    some,
    h,
    record {
      first = one.first;
      second = one.second;
      first_front = one.first_front;
      second_front = one.second_front;
      start = one.start;
      needed = one.needed;
      run = run_more-some T a b budget more le one.start P left one.run;
    },
  )

  twice_more : (budget more : ℕ) (P : List ℕ) (one : Option (List ℕ)) (rest left : ℕ) → budget ≤ more → IsSearchedFirst T a b budget one rest → IsThen T a b one rest (Some P) left
      → IsSearchedTwice T a b more (Some P) 0
  twice_more budget more P (Some Q) rest left le first is = record {
    one = Some Q;
    rest = 0;
    first = record { start = first.start; needed = first.needed; ready = first.ready; run = run_more-some T a b budget more le first.start Q rest first.run };
    then = is;
  }
  twice_more budget more P None rest left le first is =
      let (some, open_one, before_them) = again_more rest (rest + (more - budget)) P left (omega arith) is in
      record {
        one = None;
        rest = rest + (more - budget);
        first = record { start = first.start; needed = first.needed; ready = first.ready; run = run_more-none T a b budget more le first.start rest some first.run };
        then = before_sections (omega (arith, some)) open_one before_them;
      }

  pub IsTurned-more : (budget more : ℕ) (P : List ℕ) → IsTurned T a b budget (Some P) → budget ≤ more → IsTurned T a b more (Some P)
  IsTurned-more budget more P (inl (conflict, left, is)) le = inl (conflict, 0, twice_more budget more P is.one is.rest left le is.first is.then)
  IsTurned-more budget more P (inr one) le = cc one.1
