use Rattle.std.specs.Prelude.{◌≡◌}
use Rattle.racebench.proofs.input.Watched.note.Given as goal

abbrev pub invariant-loop-byte : goal.invariant-loop-byte
invariant-loop-byte g l = l.self.reader ≡ l.fn.self.reader
