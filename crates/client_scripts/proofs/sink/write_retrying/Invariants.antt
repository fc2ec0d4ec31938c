use Rattle.std.specs.Io.KnownBytes.{Keeps}
use Rattle.client_scripts.proofs.sink.write_retrying.Given as goal

-- no interrupted write took anything
abbrev pub invariant-tries : goal.invariant-tries
invariant-tries g l = Keeps (g.W.Write.contents l.fn.writer) (g.W.Write.contents l.writer)
