use Rattle.std.proofs.Common.{◌≡◌, ◌||◌, ℕ, List, flat_map, take}
use Rattle.rapid_text.proofs.NameNumbers.{has}
use Rattle.window.specs.Heads.{names_of}
use Rattle.window.proofs.levels.note_levels.Given as goal

abbrev pub invariant-loop-at : goal.invariant-loop-at
invariant-loop-at l =
    (other : List ℕ) → has (names_of l.names) other ≡ (has (names_of l.fn.names) other || has (flat_map names_of (take l.at l.levels)) other)
