-- The rows of cells: the lines that filters look at, and the variable of a race. All notions here are this project's
-- own.
use Rattle.std.specs.Prelude.{ℕ, List, [], ◌++◌, Option, Some, None, codes}
use Rattle.serde_json.specs.Data.{Data}
use Rattle.race_parts.specs.Members.{access_in, said_text}

abbrev pub variable_by : Option Data → List ℕ
variable_by None = []
variable_by (Some d) = said_text (codes "variable") d

-- the variable that the first access of a row is to; a race has one variable for both
abbrev pub variable_in : Data → List ℕ
variable_in d = variable_by (access_in 0 d)

-- the line of an access, as a trace has it
abbrev pub line_by : Data → List ℕ
line_by d =
    said_text (codes "thread") d ++ codes "|" ++ said_text (codes "operation") d ++ codes "("
    ++ said_text (codes "variable") d ++ codes ")|" ++ said_text (codes "location") d

abbrev pub line_of : Option Data → List ℕ
line_of None = []
line_of (Some d) = line_by d

-- the line of one of the accesses of a row
abbrev pub line_in : ℕ → Data → List ℕ
line_in place d = line_of (access_in place d)
