-- The text of pairs of events that are candidates.
use Rattle.std.specs.Prelude.{ℕ, List, [], ◌++◌, length, flat_map, Option, Some, None, codes, decimal}
use Rattle.rapid_text.specs.Canonical.{name_at}
use Rattle.rapid_text.specs.Recording.{Recording}
use Rattle.rapid_text.specs.declared.event.Op.{Op}
use Rattle.rapid_text.specs.declared.event.Op.TheVariants.{Read, Write}
use Rattle.event_index.specs.Events.{op_at}
use Rattle.report.specs.Info.{count_line}

-- the name of the variable that the operation accesses; empty if it is not an access
abbrev pub variable_by : Recording → Option Op → List ℕ
variable_by r (Some (Read x)) = name_at r.variables x
variable_by r (Some (Write x)) = name_at r.variables x
variable_by r op = []

-- the name of the variable that event e accesses
abbrev pub variable_words : Recording → ℕ → List ℕ
variable_words r e = variable_by r (op_at r.events e)

-- The line of a pair: its two events, and the name of the variable that the first event accesses. If the two
-- conflict, the second accesses the same variable.
abbrev pub candidate_line : Recording → ℕ × ℕ → List ℕ
candidate_line r (a, b) =
    codes "candidate " ++ decimal a ++ codes " " ++ decimal b ++ codes " " ++ variable_words r a ++ codes "\n"

-- the lines of the pairs, in order
abbrev pub candidate_lines : Recording → List (ℕ × ℕ) → List ℕ
candidate_lines r pairs = flat_map (candidate_line r) pairs

-- the number of pairs, and a line for each
unfoldable pub candidates_text : Recording → List (ℕ × ℕ) → List ℕ
candidates_text r pairs = count_line (codes "candidates") (length pairs) ++ candidate_lines r pairs
