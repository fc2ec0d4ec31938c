-- The events that a search wants in its schedule before it can show a pair. This project's own. `T` is the events of
-- a trace.
use Rattle.std.specs.Prelude.{◌≡◌, ℕ, ◌<◌, ◌↔◌, List, Some, AllPairs, Contains}
use Rattle.rapid_text.specs.declared.event.Event.{Event}
use Rattle.rapid_text.specs.declared.event.Op.TheVariants.{Join}
use Rattle.event_index.specs.Events.{op_at, thread_at}
use Rattle.event_index.specs.Lookups.{base_of, last_writer, fork_of, section_end}

-- Why e requires d.
pub data Asks (T : List Event) (e d : ℕ) : Type 0 where
  -- d is the base of e
  for_base : base_of T e ≡ Some d → Asks T e d
  -- d is the write that e sees
  for_writer : last_writer T e ≡ Some d → Asks T e d
  -- e joins the thread of d, or the thread that d forks
  for_thread : (u : ℕ) → op_at T e ≡ Some (Join u) → thread_at T d ≡ Some u → Asks T e d
  for_fork : (u : ℕ) → op_at T e ≡ Some (Join u) → fork_of T u ≡ Some d → Asks T e d
  -- d ends the critical section that e begins
  for_release : section_end T e ≡ Some d → Asks T e d

-- The smallest set of events that has the bases of a and b, and with each of its events all that it requires.
pub data IsWanted (T : List Event) (a b : ℕ) : ℕ → Type 0 where
  base_of_first : (e : ℕ) → base_of T a ≡ Some e → IsWanted T a b e
  base_of_second : (e : ℕ) → base_of T b ≡ Some e → IsWanted T a b e
  asked_for : (e d : ℕ) → IsWanted T a b e → Asks T e d → IsWanted T a b d

-- N has these events and no others, in the order of the trace
pub record AreWanted (T : List Event) (a b : ℕ) (N : List ℕ) : Type 0 where
  pub rising : AllPairs (λ x y. x < y) N
  pub members : (e : ℕ) → Contains N e ↔ IsWanted T a b e
