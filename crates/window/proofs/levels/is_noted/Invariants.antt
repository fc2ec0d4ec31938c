use Rattle.std.proofs.Common.{◌≡◌, false, flat_map, take}
use Rattle.window.specs.Heads.{names_of}
use Rattle.window.specs.Streams.{is_named}
use Rattle.window.proofs.levels.is_noted.Given as goal

abbrev pub invariant-loop-at : goal.invariant-loop-at
invariant-loop-at l = is_named (flat_map names_of (take l.at l.names.levels.items)) l.name ≡ false
