-- Which events may have a partner. No public clause cites this module. `T` is the events of a trace.
use Rattle.std.specs.Prelude.{◌≡◌, ℕ, ◌<◌, ◌≤◌, Bool, true, false, List, length, get_or, slice_get, slice_index, Some}
use Rattle.rapid_text.specs.Recording.{Recording}
use Rattle.rapid_text.specs.declared.event.Event.{Event}
use Rattle.event_index.specs.Events.{is_write_at}
use Rattle.event_index.specs.Lookups.{last_writer}
use Rattle.shb_clocks.specs.Candidates.{IsApart, IsCandidate}
use Rattle.shb_clocks.specs.Rivals.{IsClear, AreEvents, IsNoLater}
use Rattle.shb_clocks.specs.Search.{IsFirstFrom, linked_variable}
use Rattle.shb_clocks.specs.declared.ahead.Ahead.{Ahead}
use Rattle.shb_clocks.specs.declared.rivals.Rivals.{Rivals}
use Rattle.shb_clocks.specs.declared.rivals.Rivals.TheVariants.{Nowhere}

-- no later event makes a candidate with a
abbrev pub IsWithoutPartner : List Event → ℕ → Type 0
IsWithoutPartner T a = (b : ℕ) → ¬ IsCandidate T a b

-- a mark for each event; from `from` on, an event without a mark has no partner
pub record AreMarks (T : List Event) (from : ℕ) (marks : List Bool) : Type 0 where
  pub len : length marks ≡ length T
  pub none : (a : ℕ) → from ≤ a → slice_get marks a ≡ Some false → IsWithoutPartner T a

-- for each variable its first write from `from` on
pub record AreNextWrites (r : Recording) (from : ℕ) (next_writes : List ℕ) : Type 0 where
  pub len : length next_writes ≡ length r.variables
  pub first : (x : ℕ) → x < length r.variables
      → IsFirstFrom (λ e. is_write_at r.events x e ≡ true) (length r.events) from (slice_index next_writes x)

-- event b accesses the variable
pub record IsAccess (T : List Event) (x b : ℕ) : Type 0 where
  pub v : Event
  pub found : slice_get T b ≡ Some v
  pub variable : linked_variable false v.op ≡ Some x

-- What the next write of a variable and its rivals say about the variable's accesses from `from` on.
pub record AreRivals (T : List Event) (from x next : ℕ) (rivals : Rivals) : Type 0 where
  pub events : AreEvents T rivals
  -- take an event a that SHB keeps before the bases of the next write and of the rivals; SHB keeps it before the
  -- bases of all accesses of the variable from the next write on
  pub beyond : (b a : ℕ) → IsAccess T x b → next ≤ b → ¬ IsApart T a next → IsClear T rivals a → ¬ IsApart T a b
  -- likewise before the base of each earlier read of the variable that is apart from the write that it sees
  pub between :
      (b w a : ℕ) → IsAccess T x b → from ≤ b → b < next → last_writer T b ≡ Some w → IsApart T w b → IsClear T rivals a → ¬ IsApart T a b

-- for each variable its next write and its rivals
pub record LieAhead (r : Recording) (from : ℕ) (next_writes : List ℕ) (rivals : List Rivals) : Type 0 where
  pub next : AreNextWrites r from next_writes
  pub len : length rivals ≡ length r.variables
  pub at :
      (x : ℕ) → x < length r.variables → AreRivals r.events from x (slice_index next_writes x) (get_or rivals x Nowhere)

abbrev pub AreAhead : Recording → ℕ → Ahead → Type 0
AreAhead r from ahead = LieAhead r from ahead.next_writes.items ahead.rivals.items

-- What the new rivals say about each event a that is no later than e. If SHB keeps a before their bases, it keeps a
-- before the bases of the next write and of the old rivals.
pub record LooksAhead (T : List Event) (e x : ℕ) (next_writes : List ℕ) (rivals : List Rivals) (new : Rivals) : Type 0 where
  pub events : AreEvents T new
  pub write :
      (a : ℕ) → IsNoLater T a e → IsClear T new a → slice_index next_writes x < length T → ¬ IsApart T a (slice_index next_writes x)
  pub clear : (a : ℕ) → IsNoLater T a e → IsClear T new a → IsClear T (get_or rivals x Nowhere) a
