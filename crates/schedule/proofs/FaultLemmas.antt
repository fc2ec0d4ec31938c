-- The first fault of a list: there is one where the list is no correct reordering, and only one.
use Rattle.std.proofs.Common.{◌≡◌, ℕ, zero, suc, add-one, ◌+◌, ◌<◌, ◌≤◌, Bool, true, false, List, length, take, slice_index, Option, Some, None, sym, refl, ap, ◌∙◌, subst, arith, inl, inr, le_refl}
use Rattle.std.specs.Option.{is_some}
use Rattle.std.proofs.lemmas.Bool.{cases_order, false≢true}
use Rattle.std.proofs.lemmas.List.{take_more, take-take, take_all, length-take-le}
use Rattle.std.proofs.lemmas.Option.{none-some}
use Rattle.rapid_text.specs.declared.event.Event.{Event}
use Rattle.trace_rules.specs.Rules.{IsDisciplined}
use Rattle.event_index.proofs.CallerLemmas.{find_none, none_found, find_first_is}
use Rattle.schedule.specs.Faults.{IsFirstFault, refusal_at, first_fault}
use Rattle.schedule.specs.Reordering.{IsCorrectReordering, IsEnabled}
use Rattle.schedule.specs.declared.refusal.Disabled.{Disabled}
use Rattle.schedule.proofs.EnabledLemmas.{IsCorrectReordering-nil, IsCorrectReordering-take, IsEnabled-none, refusal_of-enabled}

module _ (T : List Event) (P : List ℕ) (i : ℕ) where
  -- one event more is the event at the place
  abbrev And : Type 0
  And = IsCorrectReordering T (take (i + 1) P)

  and_next : i < length P → And → IsEnabled T (take i P) (slice_index P i)
  and_next lt is = subst (IsCorrectReordering T) (take_more P i 0 lt) is

  next_and : i < length P → IsEnabled T (take i P) (slice_index P i) → And
  next_and lt is = subst (IsCorrectReordering T) (sym (take_more P i 0 lt)) is

  -- a place whose event is refused is the first fault, where those before it are a correct reordering
  pub IsFirstFault-refused : (cause : Disabled) → i < length P → IsCorrectReordering T (take i P) → refusal_at T P i ≡ Some cause → IsFirstFault T P i
  IsFirstFault-refused cause lt sound refused = record {
    within = lt;
    sound = sound;
    fault = λ is. none-some cause (sym (refusal_of-enabled T (take i P) (slice_index P i) (and_next lt is)) ∙ refused);
  }

  -- an event that nothing refuses keeps a correct reordering
  goes_on : IsDisciplined T → i < length P → IsCorrectReordering T (take i P) → refusal_at T P i ≡ None → And
  goes_on d lt sound none = next_and lt (IsEnabled-none T (take i P) (slice_index P i) d sound none)

  -- the event of a first fault is refused
  refused_by : IsDisciplined T → IsFirstFault T P i → (o : Option Disabled) → refusal_at T P i ≡ o → is_some o ≡ true
  refused_by d fault None is = absurd (fault.fault (goes_on d fault.within fault.sound is))
  refused_by d fault (Some cause) is = refl

  -- the events of a correct reordering are not refused
  passes : i < length P → And → is_some (refusal_at T P i) ≡ false
  passes lt is = ap is_some (refusal_of-enabled T (take i P) (slice_index P i) (and_next lt is))

none_of : (o : Option Disabled) → is_some o ≡ false → o ≡ None
none_of None h = refl
none_of (Some c) h = absurd (false≢true (sym h))

-- a fault stands in no beginning that is a correct reordering
within_fault : (T : List Event) (P : List ℕ) (i j : ℕ) → IsFirstFault T P i → i < j → j ≤ length P → ¬ IsCorrectReordering T (take j P)
within_fault T P i j fault lt fits is =
    let long : length (take j P) ≡ j = length-take-le j P fits in
    fault.fault (subst (IsCorrectReordering T) (take-take (i + 1) j P (omega arith)) (IsCorrectReordering-take T (take j P) (i + 1) (omega arith) is))

-- a list has one first fault at most
pub IsFirstFault-unique : (T : List Event) (P : List ℕ) (i j : ℕ) → IsFirstFault T P i → IsFirstFault T P j → i ≡ j
IsFirstFault-unique T P i j one other =
    elim (cases_order i j) [
      | inl same ↦ same
      | inr apart ↦
          elim apart [
            | inl less ↦ absurd (within_fault T P i j one less (omega (arith, other.within)) other.sound)
            | inr more ↦ absurd (within_fault T P j i other more (omega (arith, one.within)) one.sound)
          ]
    ]

-- a list with a fault is no correct reordering
pub IsFirstFault-not : (T : List Event) (P : List ℕ) (i : ℕ) → IsFirstFault T P i → ¬ IsCorrectReordering T P
IsFirstFault-not T P i fault is =
    within_fault T P i (length P) fault fault.within (le_refl (length P)) (subst (IsCorrectReordering T) (sym (take_all (length P) P (le_refl (length P)))) is)

module _ (T : List Event) (P : List ℕ) (d : IsDisciplined T) where
  abbrev is_refused : ℕ → Bool
  is_refused i = is_some (refusal_at T P i)

  -- where no event of the first n is refused, they are a correct reordering
  front : (n : ℕ) → n ≤ length P → ((i : ℕ) → i < n → is_refused i ≡ false) → IsCorrectReordering T (take n P)
  front zero fits none = IsCorrectReordering-nil T
  front (suc n) fits none =
      subst (λ (k : ℕ). IsCorrectReordering T (take k P)) (add-one n)
      (goes_on T P n d (omega arith) (front n (omega arith) (λ i lt. none i (omega arith)))
      (none_of (refusal_at T P n) (none n (omega arith))))

  -- a list with no first fault is a correct reordering
  pub first_fault-none : first_fault T P ≡ None → IsCorrectReordering T P
  unfolding first_fault
  first_fault-none none =
      subst (IsCorrectReordering T) (take_all (length P) P (le_refl (length P)))
      (front (length P) (le_refl (length P)) (λ i lt. find_none is_refused 0 (length P) none i (omega arith) (omega arith)))

  -- a correct reordering has none
  pub first_fault-correct : IsCorrectReordering T P → first_fault T P ≡ None
  unfolding first_fault
  first_fault-correct is =
      none_found is_refused 0 (length P)
      (λ i low high. passes T P i (omega arith) (IsCorrectReordering-take T P (i + 1) (omega arith) is))

  -- what is found is the first fault
  pub first_fault-some : (i : ℕ) → first_fault T P ≡ Some i → IsFirstFault T P i
  unfolding first_fault
  first_fault-some i some =
      let found = find_first_is is_refused 0 (length P) i some in
      let lt : i < length P = omega (arith, found.1) in
      let sound : IsCorrectReordering T (take i P) = front i (omega arith) (λ k low. found.3 k (omega arith) low) in
      record {
        within = lt;
        sound = sound;
        fault = λ is. absurd (false≢true (sym (passes T P i lt is) ∙ found.2));
      }

  -- the first fault is what is found
  found_fault : (i : ℕ) → IsFirstFault T P i → (o : Option ℕ) → first_fault T P ≡ o → o ≡ Some i
  found_fault i fault None is = absurd (IsFirstFault-not T P i fault (first_fault-none is))
  found_fault i fault (Some j) is = ap Some (IsFirstFault-unique T P j i (first_fault-some j is) fault)

  pub first_fault-is : (i : ℕ) → IsFirstFault T P i → first_fault T P ≡ Some i
  first_fault-is i fault = found_fault i fault (first_fault T P) refl
