use Rattle.std.proofs.Common.{◌≤◌, ◌-◌, length}
use Rattle.event_index.specs.Lookups.{count_before}
use Rattle.race_groups.proofs.cuts.EarlierCut.end.Given as goal

abbrev pub invariant-loop-end : goal.invariant-loop-end
invariant-loop-end l = l.end ≤ count_before l.self.indexed.now.events l.later l.thread

abbrev pub decreases-loop-end : goal.decreases-loop-end
decreases-loop-end l = length l.lane - l.end
