use Rattle.std.proofs.Common.{All, slice_index, take}
use Rattle.race_triage.specs.Settled.{AreApartFrom}
use Rattle.race_triage.proofs.settling.Settling.all_apart.Given as goal

abbrev pub invariant-loop-at : goal.invariant-loop-at
invariant-loop-at l =
    All (AreApartFrom l.self.analysis.now.events (slice_index l.self.places.now) l.self.between l.members) (take l.at l.members)
