use Rattle.std.proofs.Common.{ℕ, ◌<◌, get_or, length, slice_index}
use Rattle.race_groups.specs.least_pairs.Going.{AreFound, AreMore, AreTakenBefore}
use Rattle.race_groups.specs.least_pairs.Lanes.{IsInLanes}
use Rattle.race_groups.specs.least_pairs.Making.{AreBegun}
use Rattle.race_groups.specs.least_pairs.Noted.{AreTrueNotes}
use Rattle.race_groups.proofs.least_pairs.leasts.Search.variable.Given as goal

abbrev pub invariant-loop-event : goal.invariant-loop-event
invariant-loop-event l =
    record {
      begun : AreBegun l.self.indexed.now.events l.self.classes.now.numbers.items l.variable (get_or l.accesses l.event-index (length l.self.indexed.now.events)) l.lanes.list.items;
      whole : (i : ℕ) → i < l.event-index → IsInLanes l.lanes.list.items (slice_index l.accesses i);
      found : AreFound l.self l.variable l.leasts;
      more : AreMore l.self.most l.variable l.fn.leasts l.leasts;
      noted : AreTrueNotes l.self l.variable l.leasts l.noted;
      taken : AreTakenBefore l.self l.variable l.leasts (get_or l.accesses l.event-index (length l.self.indexed.now.events));
    }
