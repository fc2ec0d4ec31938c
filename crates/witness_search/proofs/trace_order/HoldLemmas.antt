-- Who holds a lock where a row stands.
use Rattle.std.proofs.Common.{◌≡◌, ◌≢◌, ℕ, ◌-◌, ◌<◌, ◌≤◌, List, length, take, get_or, count_by, Contains, Some, sym, ap, ◌∙◌, subst, arith, inl, inr}
use Rattle.std.proofs.lemmas.Bool.{cases_eq, cases_lt, lt-ltb, ltb-true}
use Rattle.rapid_text.specs.Recording.{Recording}
use Rattle.rapid_text.specs.declared.event.Event.{Event}
use Rattle.rapid_text.specs.declared.event.Op.TheVariants.{Acquire}
use Rattle.trace_rules.specs.Rules.{IsDisciplined, hold_count}
use Rattle.event_index.specs.Events.{op_at, thread_at, is_of_thread}
use Rattle.event_index.specs.Lookups.{place_of, section_end}
use Rattle.event_index.proofs.CallerLemmas.{one_thread, thread_event, thread_within}
use Rattle.must_order.specs.Layout.{IsCounted}
use Rattle.must_order.proofs.CountLemmas.{stands_at, member_before, before_member}
use Rattle.must_order.proofs.SectionLemmas.{section-open}
use Rattle.must_order.proofs.TimelineLemmas.{is_outer-from, IsOuter-test, held_since, section-since}
use Rattle.schedule.specs.Reordering.{IsCorrectReordering, FindsLockFree, events_at}
use Rattle.schedule.proofs.CallerLemmas.{is_in-true, is_in-member, releases_within_list}
use Rattle.schedule.proofs.TableReads.{is_in-count}
use Rattle.witness_search.specs.trace_order.Acquires.{IsLane, AreLanes}
use Rattle.witness_search.specs.trace_order.Counting.{IsHolding, IsHeldByOther}
use Rattle.witness_search.specs.trace_order.Joining.{IsLastCounted}
use Rattle.witness_search.specs.declared.trace_order.acquires.Lane.{Lane}
use Rattle.witness_search.proofs.trace_order.ClosingLemmas.{counted_thread}
use Rattle.witness_search.proofs.trace_order.LastLemmas.{an_element}
use Rattle.witness_search.proofs.trace_order.ReachLemmas.{end_thread}

-- a lane, by its last acquire that the row counts
module _ (r : Recording) (rules : IsDisciplined r.events) (row : ℕ → ℕ) (l : ℕ) (lane : Lane) (is : IsLane r l lane) where
  abbrev T : List Event
  T = r.events

  pub not_holding-none : ((q : ℕ) → Contains lane.events.items q → ¬ IsCounted T row q) → ¬ IsHolding T row l lane.thread
  not_holding-none none (p, taken, counted, missing) = none p ((is.members p).1 taken) counted

  module _ (q : ℕ) (last : IsLastCounted T row lane.events.items q) where
    pub IsHolding-last : ((k : ℕ) → section_end T q ≡ Some k → ¬ IsCounted T row k) → IsHolding T row l lane.thread
    IsHolding-last missing = (q, (is.members q).0 last.member, last.counted, missing)

    pub not_holding-last : (k : ℕ) → section_end T q ≡ Some k → IsCounted T row k → ¬ IsHolding T row l lane.thread
    not_holding-last k ends has (p, taken, counted, missing) =
        let low : p ≤ q = last.last p ((is.members p).1 taken) counted in
        elim (cases_eq p q) [
          | inl one ↦ missing k (ap (section_end T) one ∙ ends) has
          | inr other ↦
              let u : ℕ = lane.thread in
              let mine = IsOuter-test T p l taken.0 in
              let theirs = (is.members q).0 last.member in
              let outer = IsOuter-test T q l theirs.0 in
              let same_thread : outer.0 ≡ u = one_thread T q outer.0 u outer.1.of theirs.1 in
              let opened : 0 < hold_count (take q T) u l =
              section-open T rules p l u q mine.1.acquires taken.1
              (λ j ends_it. elim (cases_lt j q) [
                | inr le ↦ le
                | inl lt ↦ absurd (missing j ends_it (counted_thread T row j q u (end_thread T p j u taken.1 ends_it) theirs.1 (omega (arith, lt)) last.counted))
              ])
              (omega (arith, low, other)) (omega (arith, thread_within T q u theirs.1)) in
              let free : hold_count (take q T) u l ≡ 0 = ap (λ w. hold_count (take q T) w l) (sym same_thread) ∙ outer.1.free in
              omega (arith, opened, free)
        ]

-- where no lane's thread but this one holds the lock no thread does
module _ (r : Recording) (row : ℕ → ℕ) (l t : ℕ) (lanes : List Lane) (are : AreLanes r l lanes) where
  pub not_held-all : ((i : ℕ) (d : Lane) → i < length lanes → (get_or lanes i d).thread ≢ t → ¬ IsHolding r.events row l (get_or lanes i d).thread) → ¬ IsHeldByOther r.events row l t
  not_held-all none (u, other, (p, taken, counted, missing)) =
      let found = are.complete p u taken in
      let d : Lane = an_element lanes found.0 found.1 in
      let mine : (get_or lanes found.0 d).thread ≡ u = found.2 d in
      none found.0 d found.1 (λ one. other (sym mine ∙ one)) (subst (IsHolding r.events row l) (sym mine) (p, taken, counted, missing))

-- what the row counts is in the list whose counts it has
module _ (T : List Event) (row : ℕ → ℕ) (P : List ℕ) (correct : IsCorrectReordering T P) (counts : (t : ℕ) → row t ≡ count_by (is_of_thread T t) P) where
  pub Contains-counted : (e : ℕ) → IsCounted T row e → Contains P e
  Contains-counted e (t, of, low) =
      let v = thread_event T e t of in
      is_in-true P e (sym (is_in-count T P e v.0 v.1 correct.thread_order) ∙ lt-ltb (place_of T e) (count_by (is_of_thread T v.0.thread) P) (omega (arith, low, counts t, ap row v.2, counts v.0.thread)))

  pub IsCounted-member : (e t : ℕ) → thread_at T e ≡ Some t → Contains P e → IsCounted T row e
  IsCounted-member e t of has =
      let v = thread_event T e t of in
      let low = ltb-true (place_of T e) (count_by (is_of_thread T v.0.thread) P) (is_in-count T P e v.0 v.1 correct.thread_order ∙ is_in-member P e has) in
      (t, of, omega (arith, low, counts t, ap row v.2, counts v.0.thread))

  module _ (rules : IsDisciplined T) (l u : ℕ) where
    pub holds-holding : IsHolding T row l u → 0 < hold_count (events_at T P) u l
    holds-holding (p, taken, counted, missing) =
        let order = correct.thread_order u in
        let at = stands_at T P u order in
        let j : ℕ = at.0 in
        let mine = IsOuter-test T p l taken.0 in
        let below : p < j = member_before T P u p order taken.1 (Contains-counted p counted) j at.1 in
        let opened : 0 < hold_count (take j T) u l =
        section-open T rules p l u j mine.1.acquires taken.1
        (λ k ends. elim (cases_lt k j) [
          | inr le ↦ le
          | inl lt ↦
              let of = end_thread T p k u taken.1 ends in
              absurd (missing k ends (IsCounted-member k u of (before_member T P u k order of j at.1 lt)))
        ])
        below at.1.within in
        omega (arith, opened, at.1.holds l)

    pub IsHolding-holds : 0 < hold_count (events_at T P) u l → IsHolding T row l u
    IsHolding-holds holds =
        let order = correct.thread_order u in
        let at = stands_at T P u order in
        let j : ℕ = at.0 in
        let since = held_since T rules j u l at.1.within (omega (arith, holds, at.1.holds l)) in
        let p : ℕ = since.0 in
        let o = since.1.outer in (
          p,
          (is_outer-from T p l u o, o.of),
          IsCounted-member p u o.of (before_member T P u p order o.of j at.1 since.1.early),
          λ k ends counted.
              let of = end_thread T p k u o.of ends in
              let low : k < j = member_before T P u k order of (Contains-counted k counted) j at.1 in
              let high : j ≤ k = section-since T rules j u l p since.1 k ends in
              omega (arith, low, high),
        )

  -- so an acquire finds its lock free where no other thread holds it
  module _ (rules : IsDisciplined T) (e l t : ℕ) (op : op_at T e ≡ Some (Acquire l)) (of : thread_at T e ≡ Some t) where
    pub FindsLockFree-not_held : ¬ IsHeldByOther T row l t → FindsLockFree T P e
    FindsLockFree-not_held free m u acquires other =
        let one : l ≡ m = one_lock l m (sym op ∙ acquires) in
        elim (cases_lt 0 (hold_count (events_at T P) u m)) [
          | inl holds ↦
              absurd (free (u, λ is. other (of ∙ ap Some (sym is)), IsHolding-holds rules l u (subst (λ (k : ℕ). 0 < hold_count (events_at T P) u k) (sym one) holds)))
          | inr none ↦ omega (arith, none, releases_within_list T P u m rules (correct.thread_order u))
        ]
      where
        one_lock : (x y : ℕ) → Some (Acquire x) ≡ Some (Acquire y) → x ≡ y
        one_lock x y h = cc

    pub not_held-free : FindsLockFree T P e → ¬ IsHeldByOther T row l t
    not_held-free finds (u, other, holding) =
        let even = finds l u op (λ is. other (one_thread T e u t is of)) in
        omega (arith, even, holds-holding rules l u holding)
