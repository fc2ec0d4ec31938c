use Rattle.std.proofs.Common.{◌≡◌, ◌||◌, ◌++◌, ℕ, false, List, slice_index_or}
use Rattle.rapid_text.proofs.NameNumbers.{has}
use Rattle.window.specs.Heads.{level_names, names_of}
use Rattle.window.specs.Tables.{found_name}
use Rattle.window.proofs.levels.note_found.Given as goal

abbrev pub invariant-loop-thread : goal.invariant-loop-thread
invariant-loop-thread l =
    (other : List ℕ)
    → has (level_names l.known ++ names_of l.names) other
    ≡ (has (level_names l.known ++ names_of l.fn.names) other || found_name l.raw.threads (λ t. slice_index_or l.found t false) l.thread other)
