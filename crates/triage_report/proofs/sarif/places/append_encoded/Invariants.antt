-- What was appended is the path so far.
use Rattle.std.proofs.Common.{◌≡◌, ◌++◌, take}
use Rattle.triage_report.specs.sarif.Places.{encoded}
use Rattle.triage_report.proofs.sarif.places.append_encoded.Given as goal

abbrev pub invariant-loop-byte : goal.invariant-loop-byte
invariant-loop-byte l = l.out.items ≡ l.fn.out.items ++ encoded (take l.byte-index l.path)
