use Rattle.search_pool.specs.Desks.{IsManned}
use Rattle.search_pool.proofs.worker.work.Given as goal

-- the passes are of the two channels, and that of the answers knows the trace
abbrev pub invariant-loop : goal.invariant-loop
invariant-loop g l = IsManned l.desk
