-- Of which lists the list in order is the least, and why a pair has none. `T` is the events of a trace.
use Rattle.std.specs.Prelude.{◌≢◌, ◌⊎◌, ℕ, ◌<◌, List, length, Contains, ⊤}
use Rattle.rapid_text.specs.declared.event.Event.{Event}
use Rattle.event_index.specs.Relations.{IsConflicting}
use Rattle.schedule.specs.Reordering.{IsCorrectReordering}
use Rattle.schedule.specs.Shows.{Shows}
use Rattle.witness_search.specs.trace_order.InOrder.{IsNeededFor}
use Rattle.witness_search.specs.trace_order.Laws.{IsRising}
use Rattle.witness_search.specs.declared.trace_order.refusal.InOrderRefusal.{InOrderRefusal}
use Rattle.witness_search.specs.declared.trace_order.refusal.InOrderRefusal.TheVariants.{NoSuchEvent, NotConflicting, NotInOrder, OutOfMemory}

-- each list in the order of the trace that is a correct reordering and shows the pair has all events of P
abbrev pub IsLeastInOrder : List Event → ℕ → ℕ → List ℕ → Type 0
IsLeastInOrder T a b P =
    (Q : List ℕ) → IsRising Q → IsCorrectReordering T Q → Shows T Q a b → (e : ℕ) → Contains P e → Contains Q e

-- no list in the order of the trace is a correct reordering and shows the pair
abbrev pub IsNeverShownInOrder : List Event → ℕ → ℕ → Type 0
IsNeverShownInOrder T a b = (Q : List ℕ) → IsRising Q → IsCorrectReordering T Q → ¬ Shows T Q a b

-- unless memory ran out, the refusal means that no such list shows the pair
abbrev pub MeansNeverShown : List Event → ℕ → ℕ → InOrderRefusal → Type 0
MeansNeverShown T a b why = why ≢ OutOfMemory → IsNeverShownInOrder T a b

-- both events exist
abbrev pub AreThere : List Event → ℕ → ℕ → Type 0
AreThere T a b = (a < length T) × (b < length T)

-- why the pair has no list in order: the first cause, or memory ran out
abbrev pub IsRefusalOf : List Event → ℕ → ℕ → InOrderRefusal → Type 0
IsRefusalOf T a b NoSuchEvent = ¬ AreThere T a b
IsRefusalOf T a b NotConflicting = AreThere T a b × ¬ IsConflicting T a b
IsRefusalOf T a b NotInOrder = IsConflicting T a b × (IsNeededFor T a b a ⊎ IsNeededFor T a b b)
IsRefusalOf T a b OutOfMemory = ⊤
