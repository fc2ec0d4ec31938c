-- The laws of lists in the order of the trace. `T` is the trace, `P` is a list of event numbers.
use Rattle.std.specs.Prelude.{◌≡◌, ◌↔◌, ℕ, ◌<◌, List, length, Some, All, AllPairs, Contains}
use Rattle.rapid_text.specs.declared.event.Event.{Event}
use Rattle.trace_rules.specs.Rules.{IsDisciplined}
use Rattle.event_index.specs.Relations.{IsConflicting}
use Rattle.shb_clocks.specs.Candidates.{IsCandidatePair}
use Rattle.schedule.specs.Reordering.{IsCorrectReordering}
use Rattle.schedule.specs.Shows.{IsReady, Shows}
use Rattle.must_order.specs.MustBefore.{Link}
use Rattle.witness_search.specs.Slices.{IsBelowPair}
use Rattle.event_index.specs.Lookups.{base_of}
use Rattle.witness_search.specs.trace_order.InOrder.{EndsBetween, IsNeeded, AreNeeded, IsInOrder, IsNeededFor}

-- with each event S has its links, and between two acquires of one lock the end of the earlier section
pub record IsClosedIn (T : List Event) (S : ℕ → Type 0) : Type 0 where
  pub links : (d e : ℕ) → Link T d e → S e → S d
  pub sections : (p r e : ℕ) → EndsBetween T p r e → S p → S e → S r

abbrev pub IsRising : List ℕ → Type 0
IsRising P = AllPairs (λ x y. x < y) P

-- a list in the order of the trace is a correct reordering exactly if it is closed
abbrev pub RisingReorderingsAreClosed : Type 0
RisingReorderingsAreClosed =
    (T : List Event) (P : List ℕ)
    → IsDisciplined T
    → IsRising P
    → All (λ e. e < length T) P
    → IsCorrectReordering T P ↔ IsClosedIn T (Contains P)

-- the pair conflicts, and does not need one of its own events
pub record HasListInOrder (T : List Event) (a b : ℕ) : Type 0 where
  pub conflict : IsConflicting T a b
  pub first : ¬ IsNeededFor T a b a
  pub second : ¬ IsNeededFor T a b b

-- the list in order is a correct reordering, and shows the pair exactly if it has neither of the two
abbrev pub InOrderIsSound : Type 0
InOrderIsSound =
    (T : List Event) (P : List ℕ) (a b : ℕ)
    → IsDisciplined T
    → IsInOrder T a b P
    → IsCorrectReordering T P × (Shows T P a b ↔ HasListInOrder T a b)

-- each list in the order of the trace that is a correct reordering and shows the pair has all needed events; so there
-- is no such list if the pair needs one of its own events
abbrev pub InOrderIsLeast : Type 0
InOrderIsLeast =
    (T : List Event) (P : List ℕ) (a b : ℕ)
    → IsDisciplined T
    → IsRising P
    → IsCorrectReordering T P
    → Shows T P a b
    → HasListInOrder T a b × ((e : ℕ) → IsNeededFor T a b e → Contains P e)

-- the events that any pair needs are in its slice, and a candidate needs neither of its own events
abbrev pub CandidatesAreInOrder : Type 0
CandidatesAreInOrder =
    (T : List Event) (a b : ℕ)
    → IsDisciplined T
    → ((e : ℕ) → IsNeededFor T a b e → IsBelowPair T a b e) × (IsCandidatePair T a b → HasListInOrder T a b)

-- e is the base of a
abbrev pub IsBaseOf : List Event → ℕ → ℕ → Type 0
IsBaseOf T a e = base_of T a ≡ Some e

-- The least list in the order of the trace after which the event a can be ready. It is a correct reordering, and a is
-- ready after it exactly if it does not need a itself. Each such list after which a is ready has all of its events.
abbrev pub ReadyInOrderIsLeast : Type 0
ReadyInOrderIsLeast =
    (T : List Event) (P : List ℕ) (a : ℕ)
    → IsDisciplined T
    → a < length T
    → AreNeeded T (IsBaseOf T a) P
    → IsCorrectReordering T P
    × (IsReady T P a ↔ ¬ IsNeeded T (IsBaseOf T a) a)
    × ((Q : List ℕ) → IsRising Q → IsCorrectReordering T Q → IsReady T Q a → (e : ℕ) → Contains P e → Contains Q e)
