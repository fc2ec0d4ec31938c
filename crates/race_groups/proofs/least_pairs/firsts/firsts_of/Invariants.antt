use Rattle.std.proofs.Common.{ℕ, ◌<◌, slice_index}
use Rattle.race_groups.specs.least_pairs.Uses.{AreFirsts, AreFirstsHeld}
use Rattle.race_groups.proofs.least_pairs.firsts.firsts_of.Given as goal

abbrev pub invariant-loop-variable : goal.invariant-loop-variable
invariant-loop-variable l =
    record {
      firsts : AreFirsts l.indexed (slice_index l.places) l.groups.rows.items l.firsts.items;
      held : (y : ℕ) → y < l.variable → AreFirstsHeld l.indexed.events (slice_index l.places) l.groups.rows.items y l.firsts.items;
    }
