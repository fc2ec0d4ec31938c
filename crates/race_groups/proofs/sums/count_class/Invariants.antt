use Rattle.std.proofs.Common.{◌≡◌, take}
use Rattle.race_groups.specs.Counting.{class_count}
use Rattle.race_groups.proofs.sums.count_class.Given as goal

abbrev pub invariant-loop-event : goal.invariant-loop-event
invariant-loop-event l = l.count ≡ class_count l.classes l.class (take l.event-index l.events)
