use Rattle.std.proofs.Common.{◌≡◌, ℕ, ◌+◌, ◌<◌, length, take, sum_by, slice_index}
use Rattle.race_groups.specs.Counting.{weigh}
use Rattle.race_groups.proofs.weighing.weigh.Given as goal

abbrev pub invariant-loop-event : goal.invariant-loop-event
invariant-loop-event l =
    (c : ℕ) → c < length l.sums → slice_index l.sums c ≡ slice_index l.fn.sums c + sum_by (weigh l.classes l.left c) (take l.event-index l.events)
