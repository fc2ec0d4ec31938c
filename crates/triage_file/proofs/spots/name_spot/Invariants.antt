use Rattle.triage_file.specs.Spots.{IsNameless}
use Rattle.triage_file.proofs.spots.name_spot.Given as goal

abbrev pub invariant-loop-at : goal.invariant-loop-at
invariant-loop-at l = IsNameless l.fn.key l.fn.text l.at
