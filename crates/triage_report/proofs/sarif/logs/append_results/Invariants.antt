-- What was appended are the results of the verdicts so far.
use Rattle.std.proofs.Common.{◌≡◌, ◌++◌, List, take}
use Rattle.serde_json.specs.Data.{Data}
use Rattle.triage_report.specs.sarif.Logs.{joined, AreResults}
use Rattle.triage_report.proofs.sarif.logs.append_results.Given as goal

abbrev pub invariant-loop-at : goal.invariant-loop-at
invariant-loop-at l = (ds : List Data) × AreResults l.analysis l.sources (take l.at l.verdicts) ds × (l.out.items ≡ l.fn.out.items ++ joined ds)
