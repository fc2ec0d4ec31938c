use Rattle.std.proofs.Common.{◌≡◌, ◌+◌}
use Rattle.triage_file.specs.Spots.{headers_before}
use Rattle.triage_file.proofs.spots.header_of.Given as goal

abbrev pub invariant-loop-at : goal.invariant-loop-at
invariant-loop-at l = l.left + headers_before l.fn.text l.at ≡ l.fn.number
