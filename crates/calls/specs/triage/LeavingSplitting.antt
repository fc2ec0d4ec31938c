-- Which cells stay. The cells of a pair of locations are side by side, and they stay or are left out together. All
-- notions here are this project's own.
use Rattle.std.specs.Prelude.{◌≡◌, nat_eq, ◌&&◌, ◌||◌, not, Bool, false, cond, List, [], ◌∷◌, ◌++◌, Option, Some, None}
use denote.Ref.{Bor}
use Rattle.race_parts.specs.Texts.{is_new}
use Rattle.race_parts.specs.declared.cells.Cell.{Cell}
use Rattle.race_parts.specs.declared.cells.Row.{Row}
use Rattle.toml.specs.declared.value.Value.{Value}
use Rattle.calls.specs.triage.LeavingEntries.{is_decided}
use Rattle.calls.specs.triage.LeavingFilters.{is_hidden}
use Rattle.calls.specs.triage.LeavingListed.{is_listed_by}
use Rattle.calls.specs.declared.triage.leaving.listed.Listed.{Listed}
use Rattle.calls.specs.declared.triage.leaving.splitting.Parted.{Parted}
use Rattle.calls.specs.declared.triage.leaving.splitting.Test.{Test}
use Rattle.calls.specs.declared.triage.leaving.splitting.Test.TheVariants.{Race, Block}

-- the locations of the cell, which is the first of the list, are a race that is listed, or that an entry leaves out
abbrev pub drops_race : (Cell → Bool) → List Row → List Value → Cell → List Cell → Bool
drops_race listed rows es c cs = nat_eq c.rank 0 && (listed c || is_decided rows es c cs)

-- the same for the races that a text lists, if there is one
abbrev pub drops_known : List Row → Option (Bor Listed) → List Value → Cell → List Cell → Bool
drops_known rows listed es c cs = drops_race (is_listed_by listed) rows es c cs

-- the test leaves out the locations of the cell, which is the first of the list
abbrev pub drops_first : List Row → Test → Cell → List Cell → Bool
drops_first rows (Race listed es) c cs = drops_race (is_listed_by listed) rows es.now c cs
drops_first rows (Block filters) c cs = is_hidden filters rows c

-- The first cell of the list is left out. If it is the first of its locations the test decides, else the cell before
-- it.
abbrev pub is_out : (Cell → List Cell → Bool) → Bool → Bool → List Cell → Bool
is_out test first was [] = was
is_out test first was (c ∷ cs) = cond first (test c (c ∷ cs)) was

-- the cells that stay
abbrev pub staying : (Cell → List Cell → Bool) → Option Cell → Bool → List Cell → List Cell
staying test before was [] = []
staying test before was (c ∷ cs) =
    cond (not (is_out test (is_new before c) was (c ∷ cs))) (c ∷ []) []
    ++ staying test (Some c) (is_out test (is_new before c) was (c ∷ cs)) cs

-- the first cell of each pair of locations that is left out
abbrev pub leaving : (Cell → List Cell → Bool) → Option Cell → List Cell → List Cell
leaving test before [] = []
leaving test before (c ∷ cs) = cond (is_new before c && test c (c ∷ cs)) (c ∷ []) [] ++ leaving test (Some c) cs

-- the cells that stay of all cells, and the first cell of each pair of locations that is left out
abbrev pub HasStaying : List Row → Test → List Cell → Parted → Type 0
HasStaying rows test cells made = made.stay.items ≡ staying (drops_first rows test) None false cells

abbrev pub HasGone : List Row → Test → List Cell → Parted → Type 0
HasGone rows test cells made = made.gone.items ≡ leaving (drops_first rows test) None cells
