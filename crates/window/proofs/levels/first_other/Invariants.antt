use Rattle.std.proofs.Common.{◌≡◌, flat_map, length, not, take}
use Rattle.std.specs.List.{position_or_len}
use Rattle.window.specs.Heads.{level_names, names_of}
use Rattle.window.specs.Streams.{is_named}
use Rattle.window.proofs.levels.first_other.Given as goal

abbrev pub invariant-loop-at : goal.invariant-loop-at
invariant-loop-at l =
    position_or_len (λ name. not (is_named (level_names l.others) name)) (flat_map names_of (take l.at l.names.levels.items))
    ≡ length (flat_map names_of (take l.at l.names.levels.items))
