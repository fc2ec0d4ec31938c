-- A command that was judged. No public clause cites this module.
use Rattle.std.specs.Prelude.{◌≡◌, ℕ, List, [], Option, Some, Result, Ok, Err, take}
use Rattle.rapid_text.specs.Recording.{Recording}
use Rattle.moves.specs.declared.row.Row.{Row}
use Rattle.moves.specs.declared.board.Proposal.{Proposal}
use Rattle.moves.specs.declared.command.Command.{Command}
use Rattle.moves.specs.declared.inverse.Step.{Step}
use Rattle.moves.specs.declared.inverse.Step.TheVariants.{Comes, Was, Goes as GoesStep, Loses as LosesStep, Gains as GainsStep, Exchanges as ExchangesStep}
use Rattle.moves.specs.declared.judged.Judged.{Judged}
use Rattle.moves.specs.declared.judged.Judged.TheVariants.{Opens, Copies, Adopts, Goes, Loses, Gains, Exchanges}
use Rattle.moves.specs.declared.refusal.MoveRefusal.{MoveRefusal}
use Rattle.moves.specs.declared.refusal.MoveRefusal.TheVariants.{OutOfMemory}
use Rattle.moves.specs.Commands.{writes}
use Rattle.moves.specs.Inverses.{turned}
use Rattle.moves.specs.Moves.{made_at, new_row}
use Rattle.moves.specs.Rows.{Rows, row_of}

-- the step of the written row; n is the birth of a row that is added
abbrev pub step_of : Recording → ℕ → Judged → Step
step_of T n Opens = Comes (new_row T n [])
step_of T n (Copies s k) = Comes (new_row T n (take k s.now.events))
step_of T n (Adopts s) = Was (record { trace = T; events = s.now.events })
step_of T n Goes = GoesStep
step_of T n Loses = LosesStep
step_of T n (Gains e) = GainsStep e
step_of T n (Exchanges i) = ExchangesStep i

-- the schedule to be copied is of the trace
abbrev pub IsSourceOf : Recording → Judged → Type 0
IsSourceOf T (Copies s k) = s.now.trace ≡ T
IsSourceOf T (Adopts s) = s.now.trace ≡ T
IsSourceOf T j = Unit {0}

-- the command is accepted at W, and the step makes of the row that it writes what the command makes of it
abbrev pub Makes : Recording → List Proposal → ℕ → Command → Rows → Step → Type 0
Makes T B n d W step = (o : Option Row) × (made_at T B n d W ≡ Ok o) × (turned step (row_of W (writes d)) ≡ Some o)

-- The command is accepted and takes this step, for any birth of a new row; or this is its first refusal.
abbrev pub IsJudged : Recording → List Proposal → Command → Rows → Result Judged MoveRefusal → Type 0
IsJudged T B d W (Ok j) = (n : ℕ) → Makes T B n d W (step_of T n j)
IsJudged T B d W (Err OutOfMemory) = ⊥
IsJudged T B d W (Err why) = (n : ℕ) → made_at T B n d W ≡ Err why
