-- What a row of counts, as the code keeps it, says about events. It counts, for each thread, its first events. No
-- public clause cites this module. `T` is the events of a trace.
use Rattle.std.specs.Prelude.{◌≡◌, ◌≢◌, ◌↔◌, ℕ, ◌<◌, ◌≤◌, ◌+◌, Vec, List, length, slice_index, slice_index_or, Option, Some, None, Contains}
use Rattle.std.specs.Global.{Global}
use Rattle.rapid_text.specs.Recording.{Recording}
use Rattle.rapid_text.specs.declared.event.Event.{Event}
use Rattle.event_index.specs.Events.{thread_at}
use Rattle.event_index.specs.Lookups.{events_of, place_of}
use Rattle.must_order.specs.Layout.{IsCounted}
use Rattle.witness_search.specs.trace_order.Acquires.{IsPassed, IsTaken, AreLanesUpTo, AreTakenUpTo}
use Rattle.witness_search.specs.trace_order.Counting.{IsHolding, counted_events}
use Rattle.witness_search.specs.trace_order.InOrder.{IsBaseOfPair}
use Rattle.witness_search.specs.trace_order.Joining.{AreEnded, IsClosedOn, IsUpToLatest}
use Rattle.witness_search.specs.trace_order.Layout.{IsLockVisit, IsNeededRow, IsVisit}
use Rattle.witness_search.specs.trace_order.Tables.{AreReachesUpTo}
use Rattle.witness_search.specs.declared.trace_order.acquires.Lane.{Lane}
use Rattle.witness_search.specs.declared.trace_order.lasting.Latest.{Latest}

-- the row's count of each thread
abbrev pub row_in : List ℕ → ℕ → ℕ
row_in row = λ t. slice_index row t

abbrev pub row_of : Vec ℕ Global → ℕ → ℕ
row_of row = λ t. slice_index row.items t

-- the row counts no more events of a thread than the thread has
abbrev pub IsWithin : List Event → (ℕ → ℕ) → Type 0
IsWithin T row = (t : ℕ) → row t ≤ length (events_of T t)

-- the row counts exactly what the pair needs
abbrev pub IsPairRow : List Event → ℕ → ℕ → (ℕ → ℕ) → Type 0
IsPairRow T a b row = IsNeededRow T (IsBaseOfPair T a b) row

-- the row counts none of the given events
abbrev pub CountsNone : List Event → (ℕ → ℕ) → List ℕ → Type 0
CountsNone T row events = (q : ℕ) → Contains events q → ¬ IsCounted T row q

-- the row counts no event of the thread
abbrev pub CountsNoneOf : List Event → (ℕ → ℕ) → ℕ → Type 0
CountsNoneOf T row t = (a : ℕ) → thread_at T a ≡ Some t → ¬ IsCounted T row a

-- the last visited acquire of each lock
abbrev pub latest_in : Vec (Option ℕ) Global → ℕ → Option ℕ
latest_in latest = λ l. slice_index_or latest.items l None

-- the effect of visiting event e on a row and on the last acquires
abbrev pub HasVisited : List Event → ℕ → Vec ℕ Global → Vec ℕ Global → Vec (Option ℕ) Global → Vec (Option ℕ) Global → Type 0
HasVisited T e row new latest next = IsVisit T e (row_of row) (row_of new) (latest_in latest) (latest_in next)

-- the same for an acquire of lock l
abbrev pub HasTakenLock : List Event → ℕ → ℕ → Vec ℕ Global → Vec ℕ Global → Vec (Option ℕ) Global → Vec (Option ℕ) Global → Type 0
HasTakenLock T e l row new latest next = IsLockVisit T e l (row_of row) (row_of new) (latest_in latest) (latest_in next)

-- the lanes of lock l after the events of thread t before e
abbrev pub AreLanesBefore : Recording → ℕ → ℕ → ℕ → List Lane → Type 0
AreLanesBefore r l t e lanes = AreLanesUpTo r.events (length r.threads) l t (place_of r.events e) lanes

-- the lanes of lock l after event e too
abbrev pub AreLanesAfter : Recording → ℕ → ℕ → ℕ → List Lane → Type 0
AreLanesAfter r l t e lanes = AreLanesUpTo r.events (length r.threads) l t (place_of r.events e + 1) lanes

-- the lanes of each lock after the events of thread t before e
abbrev pub AreTakenBefore : Recording → ℕ → ℕ → List (Vec Lane Global) → Type 0
AreTakenBefore r t e by_lock = AreTakenUpTo r t (place_of r.events e) by_lock

-- the lanes of each lock after event e too
abbrev pub AreTakenAfter : Recording → ℕ → ℕ → List (Vec Lane Global) → Type 0
AreTakenAfter r t e by_lock = AreTakenUpTo r t (place_of r.events e + 1) by_lock

-- the acquires of lock l by thread t, which did not hold it before, among the events before e
abbrev pub AreAcquiresBefore : List Event → ℕ → ℕ → ℕ → List ℕ → Type 0
AreAcquiresBefore T l t e list = (d : ℕ) → Contains list d ↔ (IsTaken T l t d × IsPassed T t (place_of T e) d)

-- how far sections reach, for all events
abbrev pub AreReaches : List Event → List ℕ → Type 0
AreReaches T made = AreReachesUpTo T (length T) made

-- the events that the row counts, in the order of the trace
abbrev pub counted_in : Recording → List ℕ → List ℕ
counted_in r row = counted_events r.events (λ t. slice_index_or row t 0)

-- thread u holds the lock after the row's events, and is not t
abbrev pub IsHolder : List Event → (ℕ → ℕ) → ℕ → ℕ → ℕ → Type 0
IsHolder T row l t u = (u ≢ t) × IsHolding T row l u

-- the row is closed for each of the locks
abbrev pub IsClosedOnAll : List Event → (ℕ → ℕ) → List ℕ → Type 0
IsClosedOnAll T row locks = (i : ℕ) → i < length locks → IsClosedOn T row (slice_index locks i)

-- the row is closed for the locks from index `near` up to `end`
abbrev pub IsClosedBetween : List Event → (ℕ → ℕ) → List ℕ → ℕ → ℕ → Type 0
IsClosedBetween T row locks near end = (i : ℕ) → near ≤ i → i < end → IsClosedOn T row (slice_index locks i)

-- no counted acquire of the lanes is later than the latest acquire
abbrev pub IsLatestOf : List Event → (ℕ → ℕ) → List Lane → Option Latest → Type 0
IsLatestOf T row lanes latest =
    (i : ℕ) (d : Lane) → i < length lanes → IsUpToLatest T row latest (slice_index_or lanes i d).events.items

-- if the lane's thread is not that of the latest acquire, the row counts the ends of the lane's counted sections
abbrev pub IsEndedBeside : List Event → (ℕ → ℕ) → Lane → Latest → Type 0
IsEndedBeside T row lane latest = lane.thread ≢ latest.thread → AreEnded T row lane.events.items
