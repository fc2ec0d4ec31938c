-- What is found of a trace without its orders. `r` is the trace's recording.
use Rattle.std.specs.Prelude.{◌≡◌}
use Rattle.rapid_text.specs.Recording.{Recording}
use Rattle.race_triage.specs.Places.{AreFirstUsesOf, AreNumbers, AreSpotsOf}
use Rattle.race_triage.specs.Tables.{AreClassesOf}
use Rattle.race_triage.specs.declared.located.Located.{Located}

-- The locations, the classes and the acquires are those of the trace. Locations have their numbers in the order of
-- their first use.
pub record IsLocated (r : Recording) (l : Located) : Type 0 where
  pub numbers : AreNumbers r l.places.numbers.items
  pub spots : AreSpotsOf r l.places
  pub firsts : AreFirstUsesOf r l.places
  pub classes : AreClassesOf r l.places.numbers.items l.classes
  pub acquires : l.acquires ≡ r
