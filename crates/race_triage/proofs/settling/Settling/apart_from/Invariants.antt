use Rattle.std.proofs.Common.{All, slice_index, take}
use Rattle.race_triage.specs.Settled.{IsApartAt}
use Rattle.race_triage.proofs.settling.Settling.apart_from.Given as goal

abbrev pub invariant-loop-at : goal.invariant-loop-at
invariant-loop-at l =
    All (λ a. IsApartAt l.self.analysis.now.events (slice_index l.self.places.now) l.self.between a l.later) (take l.at l.members)
