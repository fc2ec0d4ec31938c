use Rattle.std.proofs.Common.{◌≤◌, ◌-◌, length}
use Rattle.race_groups.proofs.heavy.steps_of.Given as goal

abbrev pub invariant-loop-at : goal.invariant-loop-at
invariant-loop-at l = l.at ≤ length l.walk.members.now

abbrev pub decreases-loop-at : goal.decreases-loop-at
decreases-loop-at l = length l.walk.members.now - l.at
