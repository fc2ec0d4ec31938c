use Rattle.race_triage.specs.Places.{AreFirstUses, AreNumbered}
use Rattle.race_triage.proofs.places.Places.number_all.Given as goal

abbrev pub invariant-loop-event : goal.invariant-loop-event
invariant-loop-event l =
    AreNumbered l.indexed l.event l.self.locations.keys l.self.numbers.items × AreFirstUses l.indexed l.event l.self.locations.keys
