use Rattle.std.proofs.Common.{◌≡◌, ℕ, ◌<◌, Some, slice_get}
use Rattle.race_groups.specs.least_pairs.Going.{AreFound, AreMore, AreTakenWith}
use Rattle.race_groups.specs.declared.least_pairs.lanes.Lane.{Lane}
use Rattle.race_groups.specs.least_pairs.Noted.{AreTrueNotes}
use Rattle.race_groups.proofs.least_pairs.leasts.Search.access.Given as goal

abbrev pub invariant-loop-at : goal.invariant-loop-at
invariant-loop-at l =
    record {
      found : AreFound l.self l.later.variable l.leasts;
      more : AreMore l.self.most l.later.variable l.fn.leasts l.leasts;
      noted : AreTrueNotes l.self l.later.variable l.leasts l.noted;
      taken : (i : ℕ) (lane : Lane) → i < l.at → slice_get l.lanes i ≡ Some lane → AreTakenWith l.self l.leasts lane l.later;
    }
