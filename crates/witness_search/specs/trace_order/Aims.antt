-- The start of a search by counts, and what it wants. No public clause cites this module.
use Rattle.std.specs.Prelude.{◌≡◌, ℕ, ◌<◌, ◌≤◌, List, length, slice_index, Some, None}
use Rattle.rapid_text.specs.Recording.{Recording}
use Rattle.rapid_text.specs.declared.event.Event.{Event}
use Rattle.event_index.specs.Lookups.{events_of}
use Rattle.schedule.specs.Reordering.{IsCorrectReordering}
use Rattle.witness_search.specs.Greedy.{IsGreedyRun}
use Rattle.witness_search.specs.trace_order.Counting.{IsWantedRow}
use Rattle.witness_search.specs.trace_order.InOrder.{IsBaseOfPair}
use Rattle.witness_search.specs.trace_order.Laws.{IsBaseOf}
use Rattle.witness_search.specs.trace_order.Layout.{IsNeededRow}
use Rattle.witness_search.specs.trace_order.Orders.{HasNoFront, IsFront, IsSearchedAgain}
use Rattle.witness_search.specs.trace_order.Rows.{row_of}
use Rattle.witness_search.specs.trace_order.Sizes.{HasSize}
use Rattle.witness_search.specs.trace_order.Standing.{start_of}
use Rattle.witness_search.specs.declared.trace_order.enabling.Aim.{Aim}
use Rattle.schedule.specs.Shows.{Shows}

-- the start is a correct reordering, and the other row counts what is wanted for the pair
pub record IsAim (r : Recording) (aim : Aim) : Type 0 where
  pub start : length aim.start.items ≡ length r.threads
  pub wanted : length aim.wanted.items ≡ length r.threads
  pub within : (t : ℕ) → slice_index aim.start.items t ≤ length (events_of r.events t)
  pub wants : IsWantedRow r.events aim.first aim.second (λ t. slice_index aim.wanted.items t)
  pub correct : IsCorrectReordering r.events (start_of r aim)

-- the start counts what b needs before it
pub record IsAimFor (r : Recording) (a b : ℕ) (aim : Aim) : Type 0 where
  pub first : aim.first ≡ a
  pub second : aim.second ≡ b
  pub needs : IsNeededRow r.events (IsBaseOf r.events b) (row_of aim.start)
  pub is : IsAim r aim

-- The search from the start of the aim finds a list with this size.
pub record IsRunOfSize (r : Recording) (aim : Aim) (budget : ℕ) (told : ℕ × ℕ) : Type 0 where
  pub list : List ℕ
  pub run : IsGreedyRun r.events (start_of r aim) aim.first aim.second budget (Some list) 0
  pub reordering : IsCorrectReordering r.events list
  pub shows : Shows r.events list aim.first aim.second
  pub size : HasSize r.events list told.0 told.1

-- that search finds nothing, and `left` of its steps are not taken
abbrev pub IsMissedFrom : Recording → Aim → ℕ → ℕ → Type 0
IsMissedFrom r aim budget left = IsGreedyRun r.events (start_of r aim) aim.first aim.second budget None left

-- the new aim is for the same pair, and starts from what both fronts need
pub record IsAimBefore (r : Recording) (aim : Aim) (fronts : ℕ × ℕ) (new : Aim) : Type 0 where
  pub first : new.first ≡ aim.first
  pub second : new.second ≡ aim.second
  pub needs : IsNeededRow r.events (IsBaseOfPair r.events fronts.0 fronts.1) (row_of new.start)
  pub is : IsAim r new

-- The second search finds a list with this size.
pub record IsAgainOfSize (T : List Event) (a b budget : ℕ) (told : ℕ × ℕ) : Type 0 where
  pub list : List ℕ
  pub again : IsSearchedAgain T a b budget (Some list) 0
  pub reordering : IsCorrectReordering T list
  pub shows : Shows T list a b
  pub size : HasSize T list told.0 told.1

-- these are the fronts of the two, and a section is open before one of the two
pub record AreFronts (T : List Event) (a b : ℕ) (fronts : ℕ × ℕ) : Type 0 where
  pub first : IsFront T a fronts.0
  pub second : IsFront T b fronts.1
  pub first_within : fronts.0 < length T
  pub second_within : fronts.1 < length T
  pub some : ¬ HasNoFront T a b
