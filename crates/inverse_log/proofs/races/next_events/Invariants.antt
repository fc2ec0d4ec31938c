use Rattle.std.proofs.Common.{◌≡◌, map}
use Rattle.inverse_log.proofs.races.next_events.Given as goal

abbrev pub invariant-loop-event : goal.invariant-loop-event
invariant-loop-event l = l.events.items ≡ map (λ k. k.now) l.yielded
