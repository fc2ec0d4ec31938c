-- What is printed of a merged report, and how much is left out. All notions here are this project's own.
use Rattle.std.specs.Prelude.{◌≡◌, ℕ, ◌||◌, Bool, false, cond, List, [], length, is_some, option_map, Option, Some, None}
use denote.Ref.{Bor}
use Rattle.race_parts.specs.declared.cells.Cell.{Cell}
use Rattle.race_parts.specs.declared.cells.Row.{Row}
use Rattle.toml.specs.declared.value.Value.{Value}
use Rattle.calls.specs.triage.LeavingFilters.{is_any, is_hidden}
use Rattle.calls.specs.triage.LeavingListed.{AreListed}
use Rattle.calls.specs.triage.LeavingSplitting.{drops_race, leaving, staying}
use Rattle.calls.specs.declared.triage.leaving.choosing.Choice.{Choice}
use Rattle.calls.specs.declared.triage.leaving.choosing.Left.{Left}

abbrev pub entries_by : Option (List Value) → List Value
entries_by None = []
entries_by (Some es) = es

abbrev pub entries_of : Choice → List Value
entries_of choice = entries_by (option_map (λ t. t.now) choice.entries)

-- the number, if it is printed
abbrev pub count_if : Bool → ℕ → Option ℕ
count_if is n = cond is (Some n) None

-- there are known races, or a triage file
abbrev pub has_known : Choice → Bool
has_known choice = is_some choice.known || is_some choice.entries

-- the filters drop the block of the cell, which is the first of the list
abbrev pub drops_block : Choice → List Row → Cell → List Cell → Bool
drops_block choice rows c cs = is_hidden choice.filters rows c

-- Which cells stay, and how many pairs of locations are left out, if these races are listed: first those that are listed
-- or that an entry leaves out, and then those whose blocks the filters drop.
pub record IsLeftBy (listed : Cell → Bool) (rows : List Row) (cells : List Cell) (choice : Choice) (left : Left) : Type 0 where
  pub between : List Cell
  pub unknown : between ≡ staying (drops_race listed rows (entries_of choice)) None false cells
  pub stay : left.cells.items ≡ staying (drops_block choice rows) None false between
  pub known : left.known ≡ count_if (has_known choice) (length (leaving (drops_race listed rows (entries_of choice)) None cells))
  pub hidden : left.hidden ≡ count_if (is_any choice.filters) (length (leaving (drops_block choice rows) None between))

-- the races that the text of known races names are listed, and no others
abbrev pub IsListOf : Option (Bor (List ℕ)) → (Cell → Bool) → List Cell → Type 0
IsListOf None listed cells = (c : Cell) → listed c ≡ false
IsListOf (Some text) listed cells = AreListed text.now listed cells

-- which cells stay by the choice, and how many pairs of locations are left out
pub record IsLeft (rows : List Row) (cells : List Cell) (choice : Choice) (left : Left) : Type 0 where
  pub listed : Cell → Bool
  pub is_list : IsListOf choice.known listed cells
  pub by : IsLeftBy listed rows cells choice left
