use Rattle.std.proofs.Common.{◌≡◌, ◌<◌, ℕ, true, [], get_or}
use Rattle.window.specs.Heads.{level_names, names_of}
use Rattle.window.specs.Streams.{is_named}
use Rattle.window.proofs.levels.outside_at.Given as goal

abbrev pub invariant-loop-at : goal.invariant-loop-at
invariant-loop-at l = (k : ℕ) → k < l.at → is_named (level_names l.others) (get_or (names_of l.names) k []) ≡ true
