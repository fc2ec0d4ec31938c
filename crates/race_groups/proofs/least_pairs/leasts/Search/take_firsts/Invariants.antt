use Rattle.std.proofs.Common.{◌≡◌, ℕ, ◌<◌, ◌≤◌, Contains, Some, slice_get, slice_index}
use Rattle.race_groups.specs.least_pairs.Going.{AreFound, AreMore, Has}
use Rattle.race_groups.specs.least_pairs.Noted.{AreTrueNotes}
use Rattle.race_groups.specs.least_pairs.Windows.{of_window}
use Rattle.race_groups.specs.declared.least_pairs.lanes.Bunch.{Bunch}
use Rattle.race_groups.proofs.least_pairs.leasts.Search.take_firsts.Given as goal

abbrev pub invariant-loop-at : goal.invariant-loop-at
invariant-loop-at l =
    record {
      found : AreFound l.self l.window.later.variable l.leasts;
      more : AreMore l.self.most l.window.later.variable l.fn.leasts l.leasts;
      noted : AreTrueNotes l.self l.window.later.variable l.leasts l.noted;
      held : (i k : ℕ) (g : Bunch) → i < l.at → slice_get l.window.lane.now.bunches.items i ≡ Some g → l.window.from ≤ k → k < l.window.end
          → Contains g.events.items (slice_index l.window.lane.now.events.items k)
          → Has l.sought l.self l.leasts (of_window l.window) (slice_index l.window.lane.now.events.items k) l.window.later.event;
    }
