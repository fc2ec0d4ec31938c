use Rattle.std.proofs.Common.{◌≡◌, ◌⊎◌, ℕ, ◌+◌, ◌-◌, ◌/◌, ◌<◌, ◌≤◌}
use Rattle.rapid_text.specs.Limits.{event_limit}
use Rattle.window.specs.Cuts.{last_end, prologue_size}
use Rattle.window.proofs.cutting.end_of.Given as goal

abbrev pub decreases-shorter : goal.decreases-shorter
decreases-shorter l = l.to

abbrev pub invariant-shorter : goal.invariant-shorter
invariant-shorter l =
    record {
      some : l.from < l.to;
      within : l.to ≤ last_end l.trace l.from l.most;
      longest :
          (l.to ≡ last_end l.trace l.from l.most)
          ⊎ ((j : ℕ) × (l.to - l.from ≡ (j - l.from) / 2) × (event_limit < prologue_size l.trace l.from j + (j - l.from))
          × (j ≤ last_end l.trace l.from l.most));
    }
