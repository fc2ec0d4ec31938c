-- What holds for the classes of a trace, as one table. `T` is the events of a trace; `place` has the place of each
-- event.
use Rattle.std.specs.Prelude.{ℕ, ◌≤◌, List, length}
use Rattle.rapid_text.specs.declared.event.Event.{Event}
use Rattle.race_groups.specs.Classes.{AreClasses, AreLocks, AreMembers}
use Rattle.race_groups.specs.declared.classes.Classes.{Classes}

-- each event has a class, with its place and its operation
abbrev pub HaveClasses : List Event → (ℕ → ℕ) → Classes → Type 0
HaveClasses T place c = AreClasses T place c.numbers.items c.infos.items

-- there are at most as many classes as a trace may have events
abbrev pub AreFewClasses : Classes → Type 0
AreFewClasses c = length c.infos.items ≤ 1048576

-- for each variable that a class accesses, the classes that access it
abbrev pub HaveMembers : Classes → Type 0
HaveMembers c = AreMembers c.infos.items c.members.items

-- the class of an access refers to locks that the event's thread holds before it
abbrev pub HaveLocks : List Event → Classes → Type 0
HaveLocks T c = AreLocks T c.lists.keys c.numbers.items c.infos.items
