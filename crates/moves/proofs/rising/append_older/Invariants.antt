use Rattle.std.proofs.Common.{◌≡◌, ◌++◌, map}
use Rattle.moves.specs.Rows.{names_of}
use Rattle.moves.proofs.rising.append_older.Given as goal

abbrev pub invariant-loop-held : goal.invariant-loop-held
invariant-loop-held l = l.names ≡ l.initial.names ++ names_of (map (λ k. k.now) l.yielded)
