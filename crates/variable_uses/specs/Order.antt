-- Which events come before all accesses of a race, and which come after them. `T` is the events of a trace, named by
-- their numbers; `is_race` says which events are accesses of the race.
use Rattle.std.specs.Prelude.{◌≡◌, ℕ, ◌↔◌, Bool, true, List, IsTrue}
use Rattle.rapid_text.specs.declared.event.Event.{Event}
use Rattle.must_order.specs.MustBefore.{IsMustBefore}
use Rattle.variable_uses.specs.declared.order.Side.{Side}

-- each event that passes the test is must-before each access of the race
abbrev pub AreBeforeAll : List Event → (ℕ → Bool) → (ℕ → Bool) → Type 0
AreBeforeAll T test is_race = (e d : ℕ) → test e ≡ true → is_race d ≡ true → IsMustBefore T e d

-- each access of the race is must-before each event that passes the test
abbrev pub AreAfterAll : List Event → (ℕ → Bool) → (ℕ → Bool) → Type 0
AreAfterAll T test is_race = (e d : ℕ) → test e ≡ true → is_race d ≡ true → IsMustBefore T d e

-- the side of the events that pass the test
pub record IsSide (T : List Event) (test is_race : ℕ → Bool) (side : Side) : Type 0 where
  pub before : IsTrue side.is_before ↔ AreBeforeAll T test is_race
  pub after : IsTrue side.is_after ↔ AreAfterAll T test is_race
