use Rattle.std.proofs.Common.{◌≡◌, take, count_by}
use Rattle.race_triage.specs.Verdicts.{has_tries}
use Rattle.race_triage.proofs.found.budget_of.Given as goal

abbrev pub invariant-loop-row : goal.invariant-loop-row
invariant-loop-row l = l.count ≡ count_by has_tries (take l.row-index l.rows)
