-- No schedule of a pair was found so far.
use Rattle.std.proofs.Common.{◌≤◌, take}
use Rattle.explain_report.specs.findings.Findings.{search_limit}
use Rattle.race_triage.specs.Verdicts.{AreMissed}
use Rattle.race_triage.proofs.tables.Tables.first_shown.Given as goal

abbrev pub invariant-loop-at : goal.invariant-loop-at
invariant-loop-at l =
    record {
      missed : AreMissed l.self.indexed.now.events l.budget (take l.at l.tried) l.left;
      few : l.left ≤ search_limit;
    }
