use Rattle.std.proofs.Common.{slice_index}
use Rattle.race_groups.specs.least_pairs.Going.{AreFoundBelow, AreHeldBelow, IsOwn}
use Rattle.race_groups.specs.least_pairs.Noted.{AreTrueNotes}
use Rattle.race_groups.proofs.least_pairs.leasts.Search.all.Given as goal

abbrev pub invariant-loop-variable : goal.invariant-loop-variable
invariant-loop-variable l =
    AreFoundBelow l.self l.variable l.leasts
    × AreHeldBelow l.self.indexed.now (slice_index l.self.places.now) l.self.groups.now.rows.items l.self.most (IsOwn l.self) l.variable l.leasts
    × AreTrueNotes l.self l.variable l.leasts l.noted
