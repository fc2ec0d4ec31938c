use Rattle.std.proofs.Common.{◌<◌}
use Rattle.triage_file.specs.Spots.{IsBarren}
use Rattle.triage_file.proofs.spots.key_in.Given as goal

abbrev pub invariant-loop-at : goal.invariant-loop-at
invariant-loop-at l = (l.fn.start < l.at) × IsBarren l.fn.key l.fn.text l.fn.start l.at
