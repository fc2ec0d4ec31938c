-- The list at which a search stands, by its counts.
use Rattle.std.proofs.Common.{◌≡◌, ◌≢◌, ℕ, zero, suc, ◌+◌, ◌<◌, ◌≤◌, cond, Bool, true, false, List, [], ◌∷◌, ◌++◌, length, reverse, get_or, filter, count_by, find, Option, Some, None, slice_get, refl, sym, ap, ◌∙◌, subst, arith, add-one, inl, inr}
use Rattle.std.proofs.lemmas.Bool.{cases_Bool, cases_eq, cases_lt, lt-ltb, ltb-true, false≢true, eq-eqb, false_from_ne_true}
use Rattle.std.proofs.lemmas.List.{length_push, length-take}
use Rattle.std.proofs.lemmas.List.FromFn.{length-range_with_len, get_or-range_with_len, length-map-range_with_len}
use Rattle.std.proofs.lemmas.List.{get_or-map, get_or_past}
use Rattle.std.proofs.lemmas.List.Sums.{length-filter, sum_by_push}
use Rattle.std.proofs.lemmas.Option.{same_Some, none-some, slice_get_within, slice_get-get_or}
use Rattle.rapid_text.specs.Operations.{is_write}
use Rattle.rapid_text.specs.Recording.{Recording, IsWellFormed}
use Rattle.rapid_text.specs.declared.event.Event.{Event}
use Rattle.rapid_text.specs.declared.event.Op.TheVariants.{Write}
use Rattle.rapid_text.proofs.CallerLemmas.{write-from_test}
use Rattle.trace_rules.specs.Rules.{IsDisciplined}
use Rattle.event_index.specs.Events.{op_at, thread_at, is_of_thread, is_write_at}
use Rattle.event_index.specs.Lookups.{before, events_of, last_write, place_of}
use Rattle.event_index.proofs.CallerLemmas.{is_of_thread-from, is_of_thread-thread, one_thread, op_event, op_here, passes_here, place_of-events_of, thread_event, thread_here, thread_within}
use Rattle.event_index.proofs.StepLemmas.{passes_event}
use Rattle.must_order.specs.Layout.{IsCounted}
use Rattle.schedule.specs.Refusals.{refusal_of}
use Rattle.schedule.specs.Reordering.{IsCorrectReordering, IsEnabled}
use Rattle.schedule.proofs.CallerLemmas.{find-reverse_push, Allows, Allows-enabled, IsEnabled-none}
use Rattle.shb_clocks.proofs.ReadLemmas.{thread_named}
use Rattle.witness_search.specs.Layout.{kept}
use Rattle.witness_search.specs.Searches.{is_marked}
use Rattle.witness_search.proofs.KeptLemmas.{kept_yes, kept_no, kept_member, kept_passes, kept-rises}
use Rattle.witness_search.proofs.RisingLemmas.{rising-unique}
use Rattle.witness_search.specs.trace_order.Counting.{counts_by, counts, marks_of, counted_events, IsAt, IsNoted, IsUp}
use Rattle.witness_search.specs.trace_order.Laws.{IsBaseOf}
use Rattle.witness_search.specs.trace_order.InOrder.{AreNeeded}
use Rattle.witness_search.specs.trace_order.Layout.{IsCountedList, IsListLength, IsNeededRow}
use Rattle.witness_search.proofs.trace_order.HoldLemmas.{Contains-counted, IsCounted-member}
use Rattle.witness_search.proofs.trace_order.SumLemmas.{sum_to, sum_to-more, IsListLength-sum}
use Rattle.witness_search.proofs.trace_order.TurnLemmas.{IsCorrectReordering-ready}

-- the test tells whether the row counts the event
module _ (T : List Event) (row : ℕ → ℕ) where
  counts_from : (e : ℕ) (o : Option Event) → slice_get T e ≡ o → counts_by T row e o ≡ true → IsCounted T row e
  counts_from e None at h = absurd (false≢true h)
  counts_from e (Some v) at h = (v.thread, thread_here T e v at, ltb-true (place_of T e) (row v.thread) h)

  pub counts-counted : (e : ℕ) → counts T row e ≡ true → IsCounted T row e
  counts-counted e h = counts_from e (slice_get T e) refl h

  pub counted-counts : (e : ℕ) → IsCounted T row e → counts T row e ≡ true
  counted-counts e (t, of, low) =
      let v = thread_event T e t of in
      ap (counts_by T row e) v.1 ∙ lt-ltb (place_of T e) (row v.0.thread) (omega (arith, low, ap row v.2))

  -- its list
  pub IsCountedList-events : IsCountedList T row (counted_events T row)
  IsCountedList-events = record {
    rising = kept-rises (counts T row) (length T);
    members = λ e. (
      λ m. counts-counted e (kept_passes (counts T row) (length T) e m),
      λ counted. kept_member (counts T row) (length T) e (thread_within T e counted.0 counted.1) (counted-counts e counted),
    );
  }

  -- the marks are the test
  past_fails : (e : ℕ) → length T ≤ e → counts T row e ≡ false
  past_fails e past = false_from_ne_true (counts T row e) (λ h. let c = counts-counted e h in let low = thread_within T e c.0 c.1 in omega (arith, low, past))

  pub is_marked-counts : (e : ℕ) → is_marked (marks_of T row) e ≡ counts T row e
  is_marked-counts e =
      let long : length (before (length T)) ≡ length T = length-range_with_len 0 (length T) in
      elim (cases_lt e (length T)) [
        | inl low ↦
            get_or-map (counts T row) (before (length T)) e 0 false (omega (arith, low, long))
            ∙ ap (counts T row) (get_or-range_with_len 0 (length T) e 0 low ∙ omega arith)
        | inr past ↦ get_or_past (marks_of T row) e false (omega (arith, past, long, length-map_marks)) ∙ sym (past_fails e past)
      ]
    where
      length-map_marks : length (marks_of T row) ≡ length T
      length-map_marks = length-map-range_with_len (counts T row) 0 (length T)

-- the last of those below n that pass both tests, where there is one
module _ (p test : ℕ → Bool) where
  pub last_both : (n w : ℕ) → w < n → test w ≡ true → p w ≡ true → ((k : ℕ) → w < k → k < n → test k ≡ true → p k ≡ false)
      → find p (reverse (kept test n)) ≡ Some w
  last_both zero w low so passes none = absurd (omega arith)
  last_both (suc n) w low so passes none =
      subst (λ (k : ℕ). find p (reverse (kept test k)) ≡ Some w) (add-one n)
      (elim (cases_eq w n) [
        | inl one ↦
            let so_n : test n ≡ true = ap test (sym one) ∙ so in
            let passes_n : p n ≡ true = ap p (sym one) ∙ passes in
            rw (kept_yes test n so_n, find-reverse_push p (kept test n) n, passes_n) (ap Some (sym one))
        | inr other ↦
            let rest : find p (reverse (kept test n)) ≡ Some w =
            last_both n w (omega (arith, low, other)) so passes (λ k up down. none k up (omega arith)) in
            elim (cases_Bool (test n)) [
              | inl has ↦
                  let fails : p n ≡ false = none n (omega (arith, low, other)) (omega arith) has in
                  rw (kept_yes test n has, find-reverse_push p (kept test n) n, fails) rest
              | inr has_not ↦ rw (kept_no test n has_not) rest
            ]
      ])

  pub none_both : (n : ℕ) → ((k : ℕ) → k < n → test k ≡ true → p k ≡ false) → find p (reverse (kept test n)) ≡ None
  none_both zero none = refl
  none_both (suc n) none =
      subst (λ (k : ℕ). find p (reverse (kept test k)) ≡ None) (add-one n)
      (let rest : find p (reverse (kept test n)) ≡ None = none_both n (λ k down. none k (omega arith)) in
      elim (cases_Bool (test n)) [
        | inl has ↦
            let fails : p n ≡ false = none n (omega arith) has in
            rw (kept_yes test n has, find-reverse_push p (kept test n) n, fails) rest
        | inr has_not ↦ rw (kept_no test n has_not) rest
      ])

-- an event that writes the variable
pub writes_at : (T : List Event) (x e : ℕ) → op_at T e ≡ Some (Write x) → is_write_at T x e ≡ true
writes_at T x e op =
    let v = op_event T e (Write x) op in
    passes_here (λ w. is_write x w.op) T e v.0 v.1 ∙ ap (is_write x) v.2 ∙ eq-eqb x x refl

pub op-writes : (T : List Event) (x e : ℕ) → is_write_at T x e ≡ true → op_at T e ≡ Some (Write x)
op-writes T x e h =
    let v = passes_event (λ w. is_write x w.op) T e h in
    op_here T e v.0 v.1 ∙ ap Some (write-from_test x v.0.op v.2)

-- the search stands at a list
module _ (T : List Event) (rules : IsDisciplined T) (row : ℕ → ℕ) where
  abbrev S : List ℕ
  S = counted_events T row

  -- the list of a row that counts what is needed
  pub AreNeeded-events : (start : ℕ → Type 0) → IsNeededRow T start row → AreNeeded T start S
  AreNeeded-events start needs =
      let are = IsCountedList-events T row in
      record {
        rising = are.rising;
        members = λ e. (λ m. (needs e).0 ((are.members e).0 m), λ need. (are.members e).1 ((needs e).1 need));
      }

  -- where that list is a correct reordering, its counts are those of the row
  module _ (correct : IsCorrectReordering T S) (within : (t : ℕ) → row t ≤ length (events_of T t)) where
    few : (t : ℕ) → count_by (is_of_thread T t) S ≤ length (events_of T t)
    few t =
        let xs : List ℕ = filter (is_of_thread T t) S in
        omega (arith, ap length (correct.thread_order t), length-take (length xs) (events_of T t), length-filter (is_of_thread T t) S)

    of_S : (t : ℕ) → count_by (is_of_thread T t) S ≡ count_by (is_of_thread T t) S
    of_S t = refl

    counts_S : (t : ℕ) → row t ≡ count_by (is_of_thread T t) S
    counts_S t =
        let n : ℕ = count_by (is_of_thread T t) S in
        elim (cases_lt n (row t)) [
          | inl up ↦
              let e : ℕ = get_or (events_of T t) n 0 in
              let at = place_of-events_of T t n e (slice_get-get_or (events_of T t) n 0 (omega (arith, up, within t))) in
              let has = (IsCountedList-events T row).members e in
              let counted = IsCounted-member T (λ u. count_by (is_of_thread T u) S) S correct of_S e t at.1 (has.1 (t, at.1, omega (arith, at.2, up))) in
              let one : counted.0 ≡ t = one_thread T e counted.0 t counted.1 at.1 in
              absurd (omega (arith, counted.2, at.2, ap (λ u. count_by (is_of_thread T u) S) one))
          | inr le ↦ elim (cases_lt (row t) n) [
            | inr ge ↦ omega (arith, le, ge)
            | inl down ↦
                let e : ℕ = get_or (events_of T t) (row t) 0 in
                let at = place_of-events_of T t (row t) e (slice_get-get_or (events_of T t) (row t) 0 (omega (arith, down, few t))) in
                let has = (IsCountedList-events T row).members e in
                let counted = has.0 (Contains-counted T (λ u. count_by (is_of_thread T u) S) S correct of_S e (t, at.1, omega (arith, at.2, down))) in
                let one : counted.0 ≡ t = one_thread T e counted.0 t counted.1 at.1 in
                absurd (omega (arith, counted.2, at.2, ap row one))
          ]
        ]

    pub IsAt-start : (last : ℕ → Option (Option ℕ)) → ((x : ℕ) → last x ≡ None) → IsAt T row row last S
    IsAt-start last none = record {
      correct = correct;
      counts = counts_S;
      within = within;
      size = (S, IsCountedList-events T row, refl);
      noted = λ x o is. absurd (none-some o (sym (none x) ∙ is));
      other = λ x is. refl;
    }

-- one event more
module _ (r : Recording) (well : IsWellFormed r) (rules : IsDisciplined r.events) (start row new : ℕ → ℕ) (last next : ℕ → Option (Option ℕ)) (P : List ℕ) (at : IsAt r.events start row last P)
    (e t : ℕ) (of : thread_at r.events e ≡ Some t) (unrefused : refusal_of r.events P e ≡ None) (here : new t ≡ row t + 1) (others : (u : ℕ) → u ≢ t → new u ≡ row u) where
  abbrev T : List Event
  T = r.events

  enabled : IsEnabled T P e
  enabled = IsEnabled-none T P e rules at.correct unrefused

  fits : row t < length (events_of T t)
  fits =
      let a : Allows T P e = Allows-enabled T P e enabled in
      let same_thread : a.v.thread ≡ t = one_thread T e a.v.thread t (thread_here T e a.v a.found) of in
      let low = slice_get_within (events_of T a.v.thread) (count_by (is_of_thread T a.v.thread) P) e a.next in
      omega (arith, low, at.counts t, ap (λ u. count_by (is_of_thread T u) P) same_thread, ap (λ u. length (events_of T u)) same_thread)

  new_within : (u : ℕ) → new u ≤ length (events_of T u)
  new_within u =
      elim (cases_eq u t) [
        | inl one ↦ omega (arith, here, fits, ap new one, ap (λ w. length (events_of T w)) one)
        | inr other ↦ omega (arith, others u other, at.within u)
      ]

  count_push : (u : ℕ) → count_by (is_of_thread T u) (P ++ e ∷ []) ≡ count_by (is_of_thread T u) P + cond (is_of_thread T u e) 1 0
  count_push u = sum_by_push (λ d. cond (is_of_thread T u d) 1 0) P e

  new_counts : (u : ℕ) → new u ≡ count_by (is_of_thread T u) (P ++ e ∷ [])
  new_counts u =
      elim (cases_eq u t) [
        | inl one ↦
            let yes_one : is_of_thread T u e ≡ true = is_of_thread-from T e u (of ∙ ap Some (sym one)) in
            let more : count_by (is_of_thread T u) (P ++ e ∷ []) ≡ count_by (is_of_thread T u) P + 1 = count_push u ∙ ap (λ b. count_by (is_of_thread T u) P + cond b 1 0) yes_one in
            omega (arith, here, ap new one, ap row one, at.counts u, more)
        | inr other ↦
            let no_one : is_of_thread T u e ≡ false = false_from_ne_true (is_of_thread T u e) (λ h. other (one_thread T e u t (is_of_thread-thread T u e h) of)) in
            let equal : count_by (is_of_thread T u) (P ++ e ∷ []) ≡ count_by (is_of_thread T u) P + 0 = count_push u ∙ ap (λ b. count_by (is_of_thread T u) P + cond b 1 0) no_one in
            omega (arith, others u other, at.counts u, equal)
      ]

  new_size : IsListLength T new (length (P ++ e ∷ []))
  new_size =
      let width : ℕ = length r.threads in
      let sum = sum_to-more row new t width (thread_named r well e t of) here others in
      let old = same_size T row (length P) (sum_to row width) at.size (IsListLength-sum r well row at.within) in
      subst (IsListLength T new) (omega (arith, sum, old, length_push P e)) (IsListLength-sum r well new new_within)
    where
      same_size : (T : List Event) (row : ℕ → ℕ) (m n : ℕ) → IsListLength T row m → IsListLength T row n → m ≡ n
      same_size T row m n (K, are, long) (L, also, wide) =
          let one : K ≡ L = rising-unique K L are.rising also.rising (λ d m. (also.members d).1 ((are.members d).0 m)) (λ d m. (are.members d).1 ((also.members d).0 m)) in
          omega (arith, long, wide, ap length one)

  write_push : (x : ℕ) → last_write T x (P ++ e ∷ []) ≡ cond (is_write_at T x e) (Some e) (last_write T x P)
  write_push x = find-reverse_push (is_write_at T x) P e

  written : (x : ℕ) → op_at T e ≡ Some (Write x) → last_write T x (P ++ e ∷ []) ≡ Some e
  written x op = write_push x ∙ ap (λ b. cond b (Some e) (last_write T x P)) (writes_at T x e op)

  unwritten : (x : ℕ) → op_at T e ≢ Some (Write x) → last_write T x (P ++ e ∷ []) ≡ last_write T x P
  unwritten x op =
      write_push x ∙ ap (λ b. cond b (Some e) (last_write T x P)) (false_from_ne_true (is_write_at T x e) (λ h. op (op-writes T x e h)))

  module _ (noted : (x : ℕ) (o : Option ℕ) → next x ≡ Some o → last_write T x (P ++ e ∷ []) ≡ o)
      (other : (x : ℕ) → next x ≡ None → last_write T x (P ++ e ∷ []) ≡ last_write T x (counted_events T start)) where
    stepped : IsAt T start new next (P ++ e ∷ [])
    stepped = record { correct = enabled; counts = new_counts; within = new_within; size = new_size; noted = noted; other = other }

  pub IsAt-write : (x : ℕ) → op_at T e ≡ Some (Write x) → next x ≡ Some (Some e) → ((y : ℕ) → y ≢ x → next y ≡ last y) → IsAt T start new next (P ++ e ∷ [])
  IsAt-write x op noted rest =
      stepped
      (λ y o is. elim (cases_eq y x) [
        | inl one ↦ written y (op ∙ ap (λ z. Some (Write z)) (sym one)) ∙ same_Some (Some e) o (sym noted ∙ ap next (sym one) ∙ is)
        | inr apart ↦ unwritten y (λ also. apart (one_variable y x (sym also ∙ op))) ∙ at.noted y o (sym (rest y apart) ∙ is)
      ])
      (λ y is. elim (cases_eq y x) [
        | inl one ↦ absurd (none-some (Some e) (sym is ∙ ap next one ∙ noted))
        | inr apart ↦ unwritten y (λ also. apart (one_variable y x (sym also ∙ op))) ∙ at.other y (sym (rest y apart) ∙ is)
      ])
    where
      one_variable : (y x : ℕ) → Some (Write y) ≡ Some (Write x) → y ≡ x
      one_variable y x h = cc

  pub IsAt-same : ((x : ℕ) → op_at T e ≢ Some (Write x)) → ((y : ℕ) → next y ≡ last y) → IsAt T start new next (P ++ e ∷ [])
  IsAt-same none rest =
      stepped (λ y o is. unwritten y (none y) ∙ at.noted y o (sym (rest y) ∙ is)) (λ y is. unwritten y (none y) ∙ at.other y (sym (rest y) ∙ is))

-- so a step leads on
pub IsAt-step :
    (r : Recording) → IsWellFormed r → IsDisciplined r.events → (start row new : ℕ → ℕ) (last next : ℕ → Option (Option ℕ)) (P : List ℕ) → IsAt r.events start row last P
    → (e : ℕ) → refusal_of r.events P e ≡ None → IsUp r.events e row new → IsNoted r.events e last next → IsAt r.events start new next (P ++ e ∷ [])
IsAt-step r well rules start row new last next P at e none up noted =
    elim noted [
      | inl wrote ↦ IsAt-write r well rules start row new last next P at e up.thread up.of none up.here up.others wrote.0 wrote.1 wrote.2 wrote.3
      | inr rest ↦ IsAt-same r well rules start row new last next P at e up.thread up.of none up.here up.others rest.0 rest.1
    ]
