-- The session is in step, and its trace is that from before. The writer works, and the reader has not failed meanwhile. What was read was taken
-- in.
use Rattle.std.proofs.Common.{◌≡◌, ◌<◌, true, false, length}
use Rattle.kept_log.specs.Lines.{IsLine}
use Rattle.kept_session.specs.Steps.{IsUnderway}
use Rattle.kept_session.proofs.running.run_pieces.Given as goal

abbrev pub invariant-reads : goal.invariant-reads
invariant-reads g l = record {
  in_step : l.session.is_in_step ≡ true;
  trace : l.session.bench.trace ≡ l.fn.session.bench.trace;
  read : g.S.Source.has_failed l.reader ≡ g.S.Source.has_failed l.fn.reader;
  working : g.K.Sink.has_failed l.writer ≡ false;
  room : 0 < length l.piece;
  begun : IsLine l.pending.begun.items;
  underway : IsUnderway g.D.Device l.fn.session.bench.trace l.client l.counter l.pending.number l.fn.session.log l.session.log l.pending.begun.items
      (g.S.Source.rest l.fn.reader) (g.S.Source.rest l.reader) (g.K.Sink.taken l.fn.writer) (g.K.Sink.taken l.writer);
}
