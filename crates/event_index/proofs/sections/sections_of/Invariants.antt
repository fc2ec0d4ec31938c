use Rattle.event_index.specs.Open.{AreOpen}
use Rattle.event_index.proofs.sections.sections_of.Given as goal

abbrev pub invariant-loop-event : goal.invariant-loop-event
invariant-loop-event l = AreOpen l.raw l.event l.known
