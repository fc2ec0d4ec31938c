use Rattle.std.proofs.Common.{◌≡◌, ℕ, ◌<◌, true, Some, slice_index}
use Rattle.std.specs.List.{slice_get}
use Rattle.race_groups.specs.least_pairs.Uses.{AreFirstsNoted, AreUsesHeld}
use Rattle.race_groups.specs.declared.least_pairs.uses.Use.{Use}
use Rattle.race_groups.proofs.least_pairs.firsts.Places.note_variable.Given as goal

abbrev pub invariant-loop-at : goal.invariant-loop-at
invariant-loop-at l =
    record {
      noted : AreFirstsNoted l.self.indexed.now (slice_index l.self.places.now) l.self.groups.now.rows.items l.fn.firsts.items l.firsts.items;
      held : (k j : ℕ) (u v : Use) → k < l.at → slice_get l.uses k ≡ Some u → slice_get l.uses j ≡ Some v → u.is_writing ≡ true
          → AreUsesHeld l.self.indexed.now.events (slice_index l.self.places.now) l.variable l.self.groups.now.rows.items l.firsts.items u v;
    }
