-- What `apply`, `check` and `take_back` answer.
use Rattle.std.specs.Prelude.{◌≡◌, ℕ, List, Some, Result, Ok, Err, IsOk}
use Rattle.rapid_text.specs.Recording.{Recording}
use Rattle.moves.specs.declared.row.Row.{Row}
use Rattle.moves.specs.declared.board.Proposal.{Proposal}
use Rattle.moves.specs.declared.command.Command.{Command}
use Rattle.moves.specs.declared.inverse.Inverse.{Inverse}
use Rattle.moves.specs.declared.refusal.MoveRefusal.{MoveRefusal}
use Rattle.moves.specs.declared.refusal.MoveRefusal.TheVariants.{OutOfMemory}
use Rattle.moves.specs.Commands.{writes}
use Rattle.moves.specs.Rows.{Rows, row_of}
use Rattle.moves.specs.Births.{born}
use Rattle.moves.specs.Moves.{made_at, applied}
use Rattle.moves.specs.Inverses.{Fits, CanTurn, IsTurned}

-- The command is accepted, with an inverse of the written name that fits its rows before and after. Or memory runs out,
-- and the command would be accepted; or this is its first refusal. W are the rows before, V those after.
abbrev pub IsApplied : Recording → List Proposal → ℕ → Command → Rows → Rows → Result Inverse MoveRefusal → Type 0
IsApplied T B n d W V (Ok inverse) =
    (applied T B n d W ≡ Ok V) × (inverse.name ≡ writes d) × Fits inverse.step (row_of W (writes d)) (row_of V (writes d))
IsApplied T B n d W V (Err OutOfMemory) = IsOk (applied T B n d W) × (V ≡ W)
IsApplied T B n d W V (Err why) = (applied T B n d W ≡ Err why) × (V ≡ W)

-- the inverse can be taken at the rows V, and leads from there to W and to no other rows
abbrev pub TakesBack : Inverse → Rows → Rows → Type 0
TakesBack inverse V W = CanTurn inverse.name inverse.step V × ((U : Rows) → IsTurned inverse.name inverse.step V U → U ≡ W)

-- the command would be accepted, or this is its first refusal
abbrev pub IsChecked : Recording → List Proposal → ℕ → Command → Rows → Result (Unit {0}) MoveRefusal → Type 0
IsChecked T B n d W (Ok u) = IsOk (made_at T B n d W)
IsChecked T B n d W (Err why) = made_at T B n d W ≡ Err why

-- the row of x has the birth b
abbrev pub IsAt : Rows → ℕ → List ℕ → Type 0
IsAt W b x = (r : Row) × (born W b ≡ Some (x, r)) × (row_of W x ≡ Some r)
