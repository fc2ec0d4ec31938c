use Rattle.std.proofs.Common.{ℕ, ◌<◌, ◌≤◌, slice_index}
use Rattle.race_groups.specs.least_pairs.Going.{AreFound, AreMore, Has}
use Rattle.race_groups.specs.least_pairs.Noted.{AreTrueNotes}
use Rattle.race_groups.specs.least_pairs.Windows.{of_window}
use Rattle.race_groups.proofs.least_pairs.leasts.Search.take_each.Given as goal

abbrev pub invariant-loop-at : goal.invariant-loop-at
invariant-loop-at l =
    record {
      found : AreFound l.self l.window.later.variable l.leasts;
      more : AreMore l.self.most l.window.later.variable l.fn.leasts l.leasts;
      noted : AreTrueNotes l.self l.window.later.variable l.leasts l.noted;
      held : (k : ℕ) → l.window.from ≤ k → k < l.at
          → Has l.sought l.self l.leasts (of_window l.window) (slice_index l.window.lane.now.events.items k) l.window.later.event;
    }
