-- what is left is made behind what was made
use Rattle.std.proofs.Common.{◌≡◌, length}
use Rattle.kept_log.specs.Lines.{kept_lines}
use Rattle.kept_session.proofs.CatchingLemmas.{IsCatching}
use Rattle.kept_session.proofs.catching.make_all.Given as goal

abbrev pub invariant-loop-line : goal.invariant-loop-line
invariant-loop-line l = record {
  trace : l.bench.trace ≡ l.fn.bench.trace;
  underway : IsCatching l.fn.bench.trace l.fn.bench.log (kept_lines l.text) (kept_lines l.rest) l.bench.log;
}

abbrev pub decreases-loop-line : goal.decreases-loop-line
decreases-loop-line l = length l.rest
