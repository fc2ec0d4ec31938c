-- Whether filters keep the block of a row. All notions here are this project's own.
use Rattle.std.specs.Prelude.{ℕ, ◌==◌, ◌&&◌, ◌||◌, not, Bool, false, List, length, map, slice_get, Option, Some, None}
use Rattle.serde_json.specs.Data.{Data}
use Rattle.race_parts.specs.Facts.{data_in}
use Rattle.race_parts.specs.declared.cells.Cell.{Cell}
use Rattle.race_parts.specs.declared.cells.Row.{Row}
use Rattle.race_triage.specs.Chosen.{is_shown}
use Rattle.race_triage.specs.declared.filters.Filters.{Filters}
use Rattle.calls.specs.triage.LeavingLines.{line_in}

-- the texts of the filters
abbrev pub only_in : Filters → List (List ℕ)
only_in f = map (λ t. t.now) f.only.now

abbrev pub hide_in : Filters → List (List ℕ)
hide_in f = map (λ t. t.now) f.hide.now

-- there is a text
abbrev pub is_any : Filters → Bool
is_any f = not (length (only_in f) == 0) || not (length (hide_in f) == 0)

-- they drop the block of a row with this value
abbrev pub drops : Filters → Data → Bool
drops f d = not (is_shown (only_in f) (hide_in f) (line_in 0 d) (line_in 1 d))

abbrev pub is_hidden_by : Filters → Option Row → Bool
is_hidden_by f None = false
is_hidden_by f (Some r) = drops f (data_in r.line.now)

-- they drop the block of the cell's row
abbrev pub is_hidden : Filters → List Row → Cell → Bool
is_hidden f rows c = is_any f && is_hidden_by f (slice_get rows c.number)
