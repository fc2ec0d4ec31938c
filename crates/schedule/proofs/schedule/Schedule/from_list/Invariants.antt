use Rattle.std.proofs.Common.{◌≡◌, take}
use Rattle.schedule.specs.Reordering.{IsCorrectReordering}
use Rattle.schedule.proofs.schedule.Schedule.from_list.Given as goal

abbrev pub invariant-loop-event : goal.invariant-loop-event
invariant-loop-event l = (l.schedule.trace ≡ l.indexed) × (l.schedule.events ≡ take l.event-index l.events) × IsCorrectReordering l.indexed.events (take l.event-index l.events)
