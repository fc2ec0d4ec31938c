-- How counts decide the order. `T` is the events of a trace, named by their numbers. This project's own.
use Rattle.std.specs.Prelude.{◌≡◌, ℕ, ◌<◌, ◌≤◌, ◌↔◌, List, length, Some}
use Rattle.rapid_text.specs.declared.event.Event.{Event}
use Rattle.event_index.specs.Events.{thread_at}
use Rattle.event_index.specs.Lookups.{events_of, place_of}
use Rattle.shb_clocks.specs.SharedRows.{Counted}
use Rattle.must_order.specs.MustBefore.{IsMustBefore}

-- An event's count of a thread is the number of that thread's events that are must-before it or are it. These are the
-- thread's first events.
pub record TellsMust (T : List Event) (threads : ℕ) (count : ℕ → ℕ → ℕ) : Type 0 where
  pub tells : (a e t : ℕ) → e < length T → t < threads → thread_at T a ≡ Some t → (place_of T a < count e t) ↔ IsMustBefore T a e
  pub within : (e t : ℕ) → e < length T → t < threads → count e t ≤ length (events_of T t)

-- the number of threads that each row counts
abbrev pub width_of : Counted → ℕ
width_of rows = rows.width
