-- What the tables of a list tell of it.
use Rattle.std.proofs.Common.{◌≡◌, ℕ, ◌-◌, nat_lt, List, get_or, reverse, count_by, Contains, Option, Some, None, slice_get, option_map, option_and_then, sym, ap, ◌∙◌, subst, arith, inl, inr}
use Rattle.std.proofs.lemmas.Bool.{cases_lt, lt-ltb, ltb-true, false_from_ne_true}
use Rattle.std.proofs.lemmas.Option.{same_Some, none-some, slice_get_within, get_or_from_slice_get}
use Rattle.rapid_text.specs.declared.event.Event.{Event}
use Rattle.trace_rules.specs.Rules.{IsDisciplined, hold_count}
use Rattle.event_index.specs.Events.{thread_at, is_write_at}
use Rattle.event_index.specs.Lookups.{events_of, place_of, last_write}
use Rattle.event_index.proofs.CallerLemmas.{events_of-place, find-same}
use Rattle.schedule.specs.Locks.{is_acquire_at, last_acquire, last_taker}
use Rattle.schedule.specs.Refusals.{is_in}
use Rattle.schedule.specs.Reordering.{IsCorrectReordering, KeepsThreadOrder, events_at}
use Rattle.schedule.specs.LatestTables.{held}
use Rattle.schedule.specs.Tables.{AreTables, sets, frees, last_set, latest_by, event_of}
use Rattle.schedule.specs.declared.latest.Key.TheVariants.{Variable, Lock}
use Rattle.schedule.specs.declared.latest.Latest.{Latest}
use Rattle.schedule.specs.declared.tables.Tables.{Tables}
use Rattle.schedule.proofs.DepthLemmas.{hold_count-taker}
use Rattle.schedule.proofs.LatestLemmas.{event_of-latest, sets_variable, sets_lock}
use Rattle.schedule.proofs.TableLemmas.{count_of}
use Rattle.schedule.proofs.TestLemmas.{is_in-true, is_in-member}
use Rattle.schedule.proofs.ThreadLemmas.{earlier_in, later_not_in}

-- an event is in the list exactly where its place is below the count of its thread
pub is_in-count : (T : List Event) (P : List ℕ) (f : ℕ) (v : Event) → slice_get T f ≡ Some v → KeepsThreadOrder T P → nat_lt (place_of T f) (count_of T P v.thread) ≡ is_in P f
is_in-count T P f v found order =
    let k : ℕ = place_of T f in
    let n : ℕ = count_of T P v.thread in
    let there = events_of-place T f v found in
    let at : get_or (events_of T v.thread) k 0 ≡ f = get_or_from_slice_get (events_of T v.thread) k f 0 there in
    elim (cases_lt k n) [
      | inl below ↦
          lt-ltb k n below
          ∙ sym (is_in-member P f (subst (Contains P) at (earlier_in T P v.thread (order v.thread) k below)))
      | inr past ↦
          false_from_ne_true (nat_lt k n) (λ h. let lt = ltb-true k n h in omega (arith, past, lt))
          ∙ sym (false_from_ne_true (is_in P f)
          (λ h.
          later_not_in T P v.thread (order v.thread) k (slice_get_within (events_of T v.thread) k f there) past
          (subst (Contains P) (sym at) (is_in-true P f h))))
    ]

module _ (T : List Event) (P : List ℕ) (s : Tables) (tables : AreTables T P s) where
  pub last_write-latest : (x : ℕ) → event_of (held s.latest (Variable x)) ≡ last_write T x P
  last_write-latest x =
      ap event_of (tables.latest (Variable x))
      ∙ event_of-latest (last_set T P (Variable x)) (count_by (sets T (Variable x)) P) (count_by (frees T (Variable x)) P)
      ∙ find-same (sets T (Variable x)) (is_write_at T x) (sets_variable T x) (reverse P)

  last_acquire-latest : (l : ℕ) → event_of (held s.latest (Lock l)) ≡ last_acquire T P l
  last_acquire-latest l =
      ap event_of (tables.latest (Lock l))
      ∙ event_of-latest (last_set T P (Lock l)) (count_by (sets T (Lock l)) P) (count_by (frees T (Lock l)) P)
      ∙ find-same (sets T (Lock l)) (is_acquire_at T l) (sets_lock T l) (reverse P)

  -- nothing stands at the key of a lock that no thread took
  pub no_taker : (l : ℕ) → held s.latest (Lock l) ≡ None → last_taker T P l ≡ None
  no_taker l none = ap (option_and_then (thread_at T)) (sym (last_acquire-latest l) ∙ ap event_of none)

  module _ (l : ℕ) (m : Latest) (is : held s.latest (Lock l) ≡ Some m) where
    taken_last : last_acquire T P l ≡ Some m.event
    taken_last = sym (last_acquire-latest l) ∙ ap event_of is

    -- it names the last taker, where the trace has the event
    pub taker_named : (o : Option Event) → slice_get T m.event ≡ o → last_taker T P l ≡ option_map (λ v. v.thread) o
    taker_named o found = ap (option_and_then (thread_at T)) taken_last ∙ ap (option_map (λ (v : Event). v.thread)) found

    -- and has how many holds that thread has
    pub holds_named : IsDisciplined T → IsCorrectReordering T P → (w : ℕ) → last_taker T P l ≡ Some w → hold_count (events_at T P) w l ≡ m.depth
    holds_named d right w taker =
        hold_count-taker T l P d right w taker
        ∙ sym (depth_told (last_set T P (Lock l)) (count_by (sets T (Lock l)) P) (count_by (frees T (Lock l)) P) (sym (tables.latest (Lock l)) ∙ is))
      where
        depth_told : (o : Option ℕ) (a r : ℕ) → latest_by o a r ≡ Some m → m.depth ≡ a - r
        depth_told None a r h = absurd (none-some m h)
        depth_told (Some e) a r h = sym (ap (λ (x : Latest). x.depth) (same_Some (record { event = e; depth = a - r }) m h))
