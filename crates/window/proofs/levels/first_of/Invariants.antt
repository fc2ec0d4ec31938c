use Rattle.std.proofs.Common.{◌≡◌, [], flat_map, take}
use Rattle.window.specs.Heads.{names_of}
use Rattle.window.proofs.levels.first_of.Given as goal

abbrev pub invariant-loop-at : goal.invariant-loop-at
invariant-loop-at l = flat_map names_of (take l.at l.names.levels.items) ≡ []
