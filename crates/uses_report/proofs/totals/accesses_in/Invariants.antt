-- The sum so far is that of the counts so far.
use Rattle.std.proofs.Common.{◌≡◌, take, sum_by}
use Rattle.race_triage.specs.Pieces.{capped}
use Rattle.uses_report.proofs.totals.accesses_in.Given as goal

abbrev pub invariant-loop-row : goal.invariant-loop-row
invariant-loop-row l = l.count ≡ capped (sum_by (λ c. c) (take l.row-index l.uses.counts.items))
