-- Which outcomes are right for a request to a pool. This project's own. `T` is the events of the trace, a and b the
-- pair.
use Rattle.std.specs.Prelude.{◌≡◌, ◌≢◌, ℕ, List, Option, Some, None, ⊤}
use Rattle.rapid_text.specs.Recording.{Recording}
use Rattle.rapid_text.specs.declared.event.Event.{Event}
use Rattle.event_index.specs.Relations.{IsConflicting}
use Rattle.shb_clocks.specs.Candidates.{IsCandidatePair}
use Rattle.schedule.specs.Faults.{IsFirstFault}
use Rattle.schedule.specs.Reordering.{IsCorrectReordering}
use Rattle.schedule.specs.Shows.{Shows}
use Rattle.witness_search.specs.Greedy.{IsGreedyAnswer}
use Rattle.witness_search.specs.Slices.{IsSlice, IsRefusalOf}
use Rattle.witness_search.specs.declared.refusal.SliceRefusal.TheVariants.{OutOfMemory as NoMemory}
use Rattle.search_pool.specs.declared.outcome.Outcome.{Outcome}
use Rattle.search_pool.specs.declared.outcome.Outcome.TheVariants.{Witness, Nothing, NoSlice, BadBase, OutOfMemory}
use Rattle.search_pool.specs.declared.request.Posed.{Posed}
use Rattle.search_pool.specs.declared.request.Request.{Request}
use Rattle.search_pool.specs.declared.request.Way.{Way}
use Rattle.search_pool.specs.declared.request.Way.TheVariants.{Slice, Greedy}

-- a witness is a correct reordering that shows the pair
abbrev pub IsShown : List Event → ℕ → ℕ → Outcome → Type 0
IsShown T a b (Witness P) = IsCorrectReordering T P × Shows T P a b
IsShown T a b outcome = ⊤

-- the result of `slice`; memory runs out only for a candidate
abbrev pub IsSliced : List Event → ℕ → ℕ → Outcome → Type 0
IsSliced T a b (Witness P) = IsCandidatePair T a b × IsSlice T a b P
IsSliced T a b Nothing = ⊥
IsSliced T a b (NoSlice why) = IsRefusalOf T a b why × (why ≢ NoMemory)
IsSliced T a b (BadBase position) = ⊥
IsSliced T a b OutOfMemory = IsCandidatePair T a b

-- the result of `greedy` from a correct reordering; for a pair that does not conflict it finds nothing
pub record IsSearched (T : List Event) (a b : ℕ) (base : List ℕ) (budget : ℕ) (found : Option (List ℕ)) : Type 0 where
  pub begins : IsCorrectReordering T base
  pub answer : IsConflicting T a b → IsGreedyAnswer T base a b budget found
  pub no_conflict : ¬ IsConflicting T a b → found ≡ None

-- unless memory runs out: `BadBase` exactly if the base is not a correct reordering, and otherwise the result of
-- `greedy`
abbrev pub IsSought : List Event → ℕ → ℕ → List ℕ → ℕ → Outcome → Type 0
IsSought T a b base budget (Witness P) = IsSearched T a b base budget (Some P)
IsSought T a b base budget Nothing = IsSearched T a b base budget None
IsSought T a b base budget (NoSlice why) = ⊥
IsSought T a b base budget (BadBase position) = IsFirstFault T base position
IsSought T a b base budget OutOfMemory = ⊤

-- which outcomes are right for a slice
pub record IsSliceOutcome (T : List Event) (a b : ℕ) (outcome : Outcome) : Type 0 where
  pub right : IsSliced T a b outcome
  pub shown : IsShown T a b outcome

-- which outcomes are right for a greedy search
pub record IsGreedyOutcome (T : List Event) (a b : ℕ) (base : List ℕ) (budget : ℕ) (outcome : Outcome) : Type 0 where
  pub right : IsSought T a b base budget outcome
  pub shown : IsShown T a b outcome

abbrev pub IsRight : List Event → ℕ → ℕ → Way → Outcome → Type 0
IsRight T a b Slice outcome = IsSliced T a b outcome
IsRight T a b (Greedy base budget) outcome = IsSought T a b base budget outcome

-- which outcomes are right for a request
pub record IsOutcomeOf (T : List Event) (request : Request) (outcome : Outcome) : Type 0 where
  pub right : IsRight T request.first request.second request.way outcome
  pub shown : IsShown T request.first request.second outcome

-- the message of a worker: a request on a trace with its number, and its outcome
pub record Answered : Type 0 where
  pub trace : Recording
  pub posed : Posed
  pub outcome : Outcome
