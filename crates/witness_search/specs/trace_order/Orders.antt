-- Schedules that show a pair in another order than that of the trace. `T` is the events of a trace, `a` and `b` the
-- pair to be shown.
use Rattle.std.specs.Prelude.{◌≡◌, ◌⊎◌, ℕ, ◌<◌, List, Option, Some, None}
use Rattle.rapid_text.specs.declared.event.Event.{Event}
use Rattle.rapid_text.specs.declared.event.Op.TheVariants.{Acquire}
use Rattle.event_index.specs.Events.{op_at, thread_at}
use Rattle.event_index.specs.Least.{IsLeastOf}
use Rattle.event_index.specs.Lookups.{section_end}
use Rattle.event_index.specs.Relations.{IsConflicting}
use Rattle.schedule.specs.Shows.{IsReady}
use Rattle.witness_search.specs.Greedy.{IsGreedyRun}
use Rattle.witness_search.specs.trace_order.InOrder.{AreNeeded, IsBaseOfPair}
use Rattle.witness_search.specs.trace_order.Laws.{IsBaseOf}

-- p begins a critical section of e's thread that is open before e: it has no end, or its end is after e
pub record IsOpenSection (T : List Event) (e p : ℕ) : Type 0 where
  pub lock : ℕ
  pub acquires : op_at T p ≡ Some (Acquire lock)
  pub same : thread_at T p ≡ thread_at T e
  pub earlier : p < e
  pub lasts : (r : ℕ) → section_end T p ≡ Some r → e < r

abbrev pub or_itself : ℕ → Option ℕ → ℕ
or_itself e None = e
or_itself e (Some p) = p

-- h begins the first of the sections that are open before e; if there are none, h is e
abbrev pub IsFront : List Event → ℕ → ℕ → Type 0
IsFront T e h = (o : Option ℕ) × IsLeastOf (IsOpenSection T e) o × (h ≡ or_itself e o)

-- no section is open before either of the two
abbrev pub HasNoFront : List Event → ℕ → ℕ → Type 0
HasNoFront T a b = IsFront T a a × IsFront T b b

-- The first search: the greedy search from the least list in the order of the trace after which b is ready.
pub record IsSearchedFirst (T : List Event) (a b budget : ℕ) (found : Option (List ℕ)) (left : ℕ) : Type 0 where
  pub start : List ℕ
  pub needed : AreNeeded T (IsBaseOf T b) start
  pub ready : IsReady T start b
  pub run : IsGreedyRun T start a b budget found left

-- The greedy search from before the sections that are open before the two. It starts from the least list in the order
-- of the trace that both fronts need.
pub record IsSearchedBefore (T : List Event) (a b budget : ℕ) (found : Option (List ℕ)) (left : ℕ) : Type 0 where
  pub first : ℕ
  pub second : ℕ
  pub first_front : IsFront T a first
  pub second_front : IsFront T b second
  pub start : List ℕ
  pub needed : AreNeeded T (IsBaseOfPair T first second) start
  pub run : IsGreedyRun T start a b budget found left

-- The second search: that search, if steps are left and a section is open before one of the two. Otherwise it finds
-- nothing, and takes no step.
pub data IsSearchedAgain (T : List Event) (a b budget : ℕ) (found : Option (List ℕ)) (left : ℕ) : Type 0 where
  without_steps : budget ≡ 0 → found ≡ None → left ≡ budget → IsSearchedAgain T a b budget found left
  without_sections : HasNoFront T a b → found ≡ None → left ≡ budget → IsSearchedAgain T a b budget found left
  before_sections : 0 < budget → ¬ HasNoFront T a b → IsSearchedBefore T a b budget found left → IsSearchedAgain T a b budget found left

-- what is found if the first search finds `one`, and leaves so many steps
abbrev pub IsThen : List Event → ℕ → ℕ → Option (List ℕ) → ℕ → Option (List ℕ) → ℕ → Type 0
IsThen T a b (Some P) budget found left = found ≡ Some P
IsThen T a b None budget found left = IsSearchedAgain T a b budget found left

-- The result of the first search is `found`; or the first search finds nothing, and the second search, with the steps
-- that are left, returns `found`. If neither finds a list, `left` steps are not taken.
pub record IsSearchedTwice (T : List Event) (a b budget : ℕ) (found : Option (List ℕ)) (left : ℕ) : Type 0 where
  pub one : Option (List ℕ)
  pub rest : ℕ
  pub first : IsSearchedFirst T a b budget one rest
  pub then : IsThen T a b one rest found left

-- the two searches return `found`; for two events that do not conflict they find nothing
abbrev pub IsTurned : List Event → ℕ → ℕ → ℕ → Option (List ℕ) → Type 0
IsTurned T a b budget found =
    (IsConflicting T a b × (left : ℕ) × IsSearchedTwice T a b budget found left) ⊎ ((¬ IsConflicting T a b) × (found ≡ None))
