use Rattle.std.proofs.Common.{◌≡◌, ◌≤◌, false}
use Rattle.client_scripts.proofs.RunLemmas.{IsUnderway}
use Rattle.client_scripts.proofs.replaying.make_calls.Given as goal

-- the calls so far were made
abbrev pub invariant-loop-at : goal.invariant-loop-at
invariant-loop-at g l = record {
  working : g.K.Sink.has_failed l.writer ≡ false;
  trace : l.bench.trace ≡ l.fn.bench.trace;
  few : l.accepted ≤ l.at;
  underway : IsUnderway l.fn.bench.trace l.script l.at l.bench.log l.kept.items l.accepted (g.K.Sink.taken l.fn.writer) (g.K.Sink.taken l.writer);
}
