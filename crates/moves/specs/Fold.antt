-- Commands applied in order, each with the birth of a row that it makes.
use Rattle.std.specs.Prelude.{◌≡◌, ◌+◌, ◌≤◌, ℕ, List, [], ◌∷◌, Option, Some, None, Ok, fold}
use Rattle.std.specs.Result.{result_ok}
use Rattle.rapid_text.specs.Recording.{Recording}
use Rattle.moves.specs.declared.row.Row.{Row}
use Rattle.moves.specs.declared.board.Proposal.{Proposal}
use Rattle.moves.specs.declared.command.Command.{Command}
use Rattle.moves.specs.Commands.{writes}
use Rattle.moves.specs.Rows.{Rows, row_of, with_row}
use Rattle.moves.specs.Moves.{made_at, applied}

-- a birth and a command
abbrev pub Numbered : Type 0
Numbered = ℕ × Command

-- commands with the births n, n + 1 and so on
abbrev pub numbered : ℕ → List Command → List Numbered
numbered n [] = []
numbered n (d ∷ D) = (n, d) ∷ numbered (n + 1) D

-- the rows after one more command, or none if this or an earlier command is refused
abbrev pub goes_on : Recording → List Proposal → Option Rows → Numbered → Option Rows
goes_on T B None e = None
goes_on T B (Some W) e = result_ok (applied T B e.0 e.1 W)

-- the rows after these commands, starting from no rows, or none if one is refused
abbrev pub fold_of : Recording → List Proposal → List Numbered → Option Rows
fold_of T B E = fold (goes_on T B) (Some []) E

-- From W the commands lead to V, one after another. R holds of each command, the row that it writes as it was before,
-- and that row as it is after.
abbrev pub Leads : Recording → List Proposal → (Numbered → Option Row → Option Row → Type 0) → Rows → List Numbered → Rows → Type 0
Leads T B R W [] V = W ≡ V
Leads T B R W (e ∷ E) V =
    (o : Option Row) × (made_at T B e.0 e.1 W ≡ Ok o) × R e (row_of W (writes e.1)) o × Leads T B R (with_row W (writes e.1) o) E V

-- births rise, are at least low, and are below high
abbrev pub Rises : ℕ → List Numbered → ℕ → Type 0
Rises low [] high = low ≤ high
Rises low (e ∷ E) high = (low ≤ e.0) × Rises (e.0 + 1) E high
