use Rattle.std.proofs.Common.{◌≡◌, ℕ, ◌-◌, ◌<◌, ◌≤◌, Some, length, slice_index}
use Rattle.std.specs.List.{slice_get}
use Rattle.race_groups.specs.least_pairs.Uses.{AreFirstsNoted, AreUsesHeld}
use Rattle.race_groups.specs.declared.least_pairs.uses.Use.{Use}
use Rattle.race_groups.proofs.least_pairs.firsts.Places.note_all.Given as goal

abbrev pub invariant-loop-at : goal.invariant-loop-at
invariant-loop-at l =
    record {
      within : l.at ≤ length l.uses;
      noted : AreFirstsNoted l.self.indexed.now (slice_index l.self.places.now) l.self.groups.now.rows.items l.fn.firsts.items l.firsts.items;
      held : (k : ℕ) (v : Use) → k < l.at → slice_get l.uses k ≡ Some v
          → AreUsesHeld l.self.indexed.now.events (slice_index l.self.places.now) l.variable l.self.groups.now.rows.items l.firsts.items l.one v;
    }

abbrev pub decreases-loop-at : goal.decreases-loop-at
decreases-loop-at l = length l.uses - l.at
