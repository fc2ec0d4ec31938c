-- The row of wanted events.
use Rattle.std.proofs.Common.{◌≡◌, ℕ, ◌-◌, ◌*◌, ◌<◌, ◌≤◌, List, length, get_or, Option, Some, None, IfSome, refl, sym, ◌∙◌, subst, arith, inl, inr}
use Rattle.std.proofs.lemmas.Bool.{cases_lt}
use Rattle.std.proofs.lemmas.List.{get_or_default}
use Rattle.std.proofs.lemmas.Option.{same_Some, none-some}
use Rattle.rapid_text.specs.declared.event.Event.{Event}
use Rattle.trace_rules.specs.Rules.{IsDisciplined}
use Rattle.event_index.specs.Events.{thread_at}
use Rattle.event_index.specs.Lookups.{base_of, events_of, place_of}
use Rattle.event_index.proofs.CallerLemmas.{events_of-length, thread_within}
use Rattle.must_order.specs.Layout.{IsCounted}
use Rattle.must_order.specs.MustBefore.{Link, by_base, by_writer, by_join, from_fork_to_join, IsMustBefore, same, link}
use Rattle.must_order.proofs.RowLemmas.{total, sum-grows}
use Rattle.witness_search.specs.Wanted.{Asks, for_base, for_writer, for_thread, for_fork, for_release, IsWanted, base_of_first, base_of_second, asked_for}
use Rattle.witness_search.specs.trace_order.Counting.{IsSeeking, IsWantedRow, IsAhead, IsEndedIn}
use Rattle.witness_search.specs.trace_order.InOrder.{IsNeeded, started}
use Rattle.witness_search.specs.trace_order.Joining.{Joins, IsEndOf}
use Rattle.witness_search.specs.trace_order.Laws.{IsBaseOf, IsClosedIn}
use Rattle.witness_search.specs.trace_order.Layout.{IsEither, IsNeededRow}
use Rattle.witness_search.specs.trace_order.Tables.{AreReachesUpTo, IsReach}
use Rattle.witness_search.proofs.trace_order.ClosedLemmas.{closed_must}
use Rattle.witness_search.proofs.trace_order.ClosingLemmas.{counted-grows, counted_thread}
use Rattle.witness_search.proofs.trace_order.LoopLemmas.{sum-bound}
use Rattle.witness_search.proofs.trace_order.NeededLemmas.{IsClosedIn-needed, needed_in}
use Rattle.witness_search.proofs.trace_order.ReachLemmas.{end_thread}

-- what one start asks for, by another name
pub IsNeededRow-base : (T : List Event) (b : ℕ) (o : Option ℕ) (row : ℕ → ℕ) → o ≡ base_of T b → IsNeededRow T (IsEither o None) row → IsNeededRow T (IsBaseOf T b) row
IsNeededRow-base T b o row is needs e = (
  λ counted.
      needed_in T (IsEither o None) (IsNeeded T (IsBaseOf T b)) (IsClosedIn-needed T (IsBaseOf T b))
      (λ d from. elim from [ inl base ↦ started d (sym is ∙ base) | inr none ↦ absurd (none-some d none) ]) e ((needs e).0 counted),
  λ need.
      (needs e).1
      (needed_in T (IsBaseOf T b) (IsNeeded T (IsEither o None)) (IsClosedIn-needed T (IsEither o None)) (λ d base. started d (inl (is ∙ base))) e need),
)

asks_link : (T : List Event) (d e : ℕ) → Link T d e → Asks T e d
asks_link T d e (by_base base) = for_base base
asks_link T d e (by_writer writer) = for_writer writer
asks_link T d e (by_join u of joins) = for_thread u joins of
asks_link T d e (from_fork_to_join u forks joins) = for_fork u joins forks

module _ (T : List Event) (rules : IsDisciplined T) (a b : ℕ) where
  -- the wanted events are closed
  wanted_closed : IsClosedIn T (IsWanted T a b)
  wanted_closed = record {
    links = λ d e one is. asked_for e d is (asks_link T d e one);
    sections = λ p r e s has also. asked_for p r has (for_release s.ends);
  }

  wanted_must : (d e : ℕ) → IsMustBefore T d e → IsWanted T a b e → IsWanted T a b d
  wanted_must d e must is = closed_must T rules (IsWanted T a b) wanted_closed d e must is

  -- from what is needed for the one event on, with the base of the other
  pub IsSeeking-start : (o : Option ℕ) (row new : ℕ → ℕ) → o ≡ base_of T a → IsNeededRow T (IsBaseOf T b) row → ((t : ℕ) → row t ≤ length (events_of T t))
      → Joins T (λ d. o ≡ Some d) row new → IsSeeking T a b new
  IsSeeking-start o row new is needs within joins = record {
    starts = λ c from. elim from [
      | inl base ↦ joins.has c (is ∙ base)
      | inr base ↦ counted-grows T row new joins.grows c ((needs c).1 (started c base))
    ];
    sound = λ e counted. elim (joins.sound e counted) [
      | inl old ↦ needed_in T (IsBaseOf T b) (IsWanted T a b) wanted_closed (λ c base. base_of_second c base) e ((needs e).0 old)
      | inr up ↦ wanted_must e up.0 up.2 (base_of_first up.0 (sym is ∙ up.1))
    ];
    down = joins.down
        (λ d e must counted. (needs d).1 (closed_must T rules (IsNeeded T (IsBaseOf T b)) (IsClosedIn-needed T (IsBaseOf T b)) d e must ((needs e).0 counted)));
    within = joins.within within;
  }

  -- with the end of a section
  module _ (row new : List ℕ) (width : ℕ) (wide : length row ≡ width) (also : length new ≡ width)
      (named : (e t : ℕ) → thread_at T e ≡ Some t → t < width)
      (is : IsSeeking T a b (λ t. get_or row t 0)) (r : ℕ) (ahead : IsAhead T (λ t. get_or row t 0) r)
      (joins : Joins T (λ d. Some r ≡ Some d) (λ t. get_or row t 0) (λ t. get_or new t 0)) where
    pub IsSeeking-ahead : IsSeeking T a b (λ t. get_or new t 0)
    IsSeeking-ahead = record {
      starts = λ c from. counted-grows T (λ t. get_or row t 0) (λ t. get_or new t 0) joins.grows c (is.starts c from);
      sound = λ e counted. elim (joins.sound e counted) [
        | inl old ↦ is.sound e old
        | inr up ↦
            wanted_must e up.0 up.2
            (subst (IsWanted T a b) (same_Some r up.0 up.1) (asked_for ahead.start r (is.sound ahead.start ahead.has) (for_release ahead.ends)))
      ];
      down = joins.down is.down;
      within = joins.within is.within;
    }

    -- grows
    pub smaller_ahead : width * length T - total new < width * length T - total row
    smaller_ahead =
        let counted = joins.has r refl in
        let t : ℕ = counted.0 in
        let low : t < width = named r t counted.1 in
        let more : get_or row t 0 < get_or new t 0 =
        elim (cases_lt (place_of T r) (get_or row t 0)) [
          | inl old ↦ absurd (ahead.missing (t, counted.1, old))
          | inr late ↦ omega (arith, counted.2, late)
        ] in
        let grown : total row < total new = sum-grows row new t (also ∙ sym wide) (λ u lt. joins.grows u) (omega (arith, low, wide)) more in
        let bound : total new ≤ length new * length T = sum-bound new (length T) (λ u. omega (arith, IsSeeking-ahead.within u, events_of-length T u)) in
        let limit : total new ≤ width * length T = subst (λ (w : ℕ). total new ≤ w * length T) also bound in
        omega (arith, grown, limit)

  -- where no end is missing it counts all that is wanted
  module _ (row : ℕ → ℕ) (is : IsSeeking T a b row) (ended : (t : ℕ) → IsEndedIn T row t) where
    asked_counted : (d e : ℕ) → Asks T e d → IsCounted T row e → IsCounted T row d
    asked_counted d e (for_base base) counted = is.down d e (link d d e (same d d refl) (by_base base)) counted
    asked_counted d e (for_writer writer) counted = is.down d e (link d d e (same d d refl) (by_writer writer)) counted
    asked_counted d e (for_thread u joins of) counted = is.down d e (link d d e (same d d refl) (by_join u of joins)) counted
    asked_counted d e (for_fork u joins forks) counted = is.down d e (link d d e (same d d refl) (from_fork_to_join u forks joins)) counted
    asked_counted d e (for_release ends) counted = ended counted.0 e d counted.1 counted ends

    wanted_counted : (e : ℕ) → IsWanted T a b e → IsCounted T row e
    wanted_counted e (base_of_first _ base) = is.starts e (inl base)
    wanted_counted e (base_of_second _ base) = is.starts e (inr base)
    wanted_counted e (asked_for d _ wanted asks) = asked_counted e d asks (wanted_counted d wanted)

    pub IsWantedRow-ended : IsWantedRow T a b row
    IsWantedRow-ended e = (λ counted. is.sound e counted, λ wanted. wanted_counted e wanted)

-- of one thread, by its last event
module _ (T : List Event) (row : ℕ → ℕ) (t : ℕ) where
  pub IsEndedIn-none : ((e : ℕ) → thread_at T e ≡ Some t → ¬ IsCounted T row e) → IsEndedIn T row t
  IsEndedIn-none none p k of counted ends = absurd (none p of counted)

  module _ (last r : ℕ) (end : IsEndOf T row t last) (reach : IsReach T last r) where
    pub IsEndedIn-reach : IsCounted T row r → IsEndedIn T row t
    IsEndedIn-reach has p k of counted ends =
        counted_thread T row k r t (end_thread T p k t of ends) (reach.same ∙ end.of) (reach.ends p k (of ∙ sym end.of) (end.last p of counted) ends) has

    pub IsAhead-reach : ¬ IsCounted T row r → IsAhead T row r
    IsAhead-reach missing =
        elim reach.from [
          | inl one ↦ absurd (missing (subst (IsCounted T row) (sym one) end.counted))
          | inr found ↦
              record {
                start = found.0;
                has = counted_thread T row found.0 last t (found.1 ∙ end.of) end.of found.2 end.counted;
                ends = found.3;
                missing = missing;
              }
        ]

-- how far the last event reaches, by the table
pub reach_read :
    (T : List Event) (row : ℕ → ℕ) (t : ℕ) (reach : List ℕ) → AreReachesUpTo T (length T) reach → (last x d : ℕ) → IsEndOf T row t last → x ≡ get_or reach last d → IsReach T last x
reach_read T row t reach are last x d end read =
    let low : last < length T = thread_within T last t end.of in
    subst (IsReach T last) (sym (read ∙ get_or_default reach last d 0 (omega (arith, low, are.len)))) (are.of last low)

-- what is told of a slice is told of the row
pub ahead_read : (T : List Event) (row xs : List ℕ) (o : Option ℕ) → xs ≡ row → IfSome o (IsAhead T (λ t. get_or xs t 0)) → IfSome o (IsAhead T (λ t. get_or row t 0))
ahead_read T row xs o is ahead = subst (λ (ys : List ℕ). IfSome o (IsAhead T (λ t. get_or ys t 0))) is ahead

pub ended_read : (T : List Event) (row xs : List ℕ) (o : Option ℕ) → xs ≡ row → (o ≡ None → (t : ℕ) → IsEndedIn T (λ t. get_or xs t 0) t)
    → o ≡ None → (t : ℕ) → IsEndedIn T (λ t. get_or row t 0) t
ended_read T row xs o is none = subst (λ (ys : List ℕ). o ≡ None → (t : ℕ) → IsEndedIn T (λ t. get_or ys t 0) t) is none
