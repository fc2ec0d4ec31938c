use Rattle.std.proofs.Common.{◌≡◌, ◌++◌, take}
use Rattle.std.specs.Map.{values_of}
use Rattle.moves.specs.Rows.{names_of}
use Rattle.moves.proofs.rising.append_young.Given as goal

abbrev pub invariant-loop-entry : goal.invariant-loop-entry
invariant-loop-entry l = l.names ≡ l.initial.names ++ names_of (values_of (take l.entry-index l.young))
