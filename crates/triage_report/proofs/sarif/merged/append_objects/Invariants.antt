-- What was appended are the results of the pairs so far.
use Rattle.std.proofs.Common.{◌≡◌, ◌++◌, take}
use Rattle.triage_report.specs.sarif.Logs.{joined}
use Rattle.triage_report.specs.sarif.Merged.{merged_objects}
use Rattle.triage_report.proofs.sarif.merged.append_objects.Given as goal

abbrev pub invariant-loop-at : goal.invariant-loop-at
invariant-loop-at l = l.out.items ≡ l.fn.out.items ++ joined (merged_objects l.parts l.sources (take l.at l.pairs))
