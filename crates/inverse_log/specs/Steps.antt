-- What takes entries back, as it is kept with the log. No public clause cites this module.
use Rattle.std.specs.Prelude.{ℕ, List, [], ◌∷◌, Option, Some, None, slice_get}
use Rattle.moves.specs.declared.command.Command.{Command}
use Rattle.moves.specs.declared.inverse.Inverse.{Inverse}
use Rattle.moves.specs.declared.inverse.Step.TheVariants as step
use Rattle.moves.specs.Batches.{IsTurnedAll}
use Rattle.moves.specs.Commands.{writes}
use Rattle.moves.specs.Rows.{Rows}
use Rattle.inverse_log.specs.declared.entry.Entry.{Entry}
use Rattle.inverse_log.specs.declared.entry.Entry.TheVariants.{Did, Batch}
use Rattle.inverse_log.specs.declared.kept.Form.{Form}
use Rattle.inverse_log.specs.declared.kept.Form.TheVariants as form
use Rattle.inverse_log.specs.declared.kept.Held.{Held}
use Rattle.inverse_log.specs.declared.kept.Held.TheVariants.{Nothing, One, Many}

-- what is kept
abbrev pub kept_in : Form → Held
kept_in form.Nothing = Nothing
kept_in form.Goes = One step.Goes
kept_in form.Loses = One step.Loses
kept_in (form.Gains event) = One (step.Gains event)
kept_in (form.Exchanges place) = One (step.Exchanges place)
kept_in (form.Apart box) = box.value

-- the inverses of these commands, from what is kept for them
abbrev pub inverses_of : Held → List Command → List Inverse
inverses_of (Many I) D = I
inverses_of (One s) (d ∷ D) = record { name = writes d; step = s } ∷ []
inverses_of held D = []

-- these commands were taken back, by what is kept for them
abbrev pub IsTakenBack : Held → List Command → Rows → Rows → Type 0
IsTakenBack held D old new = IsTurnedAll (inverses_of held D) old new

abbrev pub single_in : Option Entry → Option Command
single_in (Some (Did c d)) = Some d
single_in e = None

-- the command of entry k, if it did a single one
abbrev pub single_at : List Entry → ℕ → Option Command
single_at L k = single_in (slice_get L k)

abbrev pub batch_in : Option Entry → List Command
batch_in (Some (Batch c D)) = D
batch_in e = []

-- the commands of entry k, if it did a batch
abbrev pub batch_at : List Entry → ℕ → List Command
batch_at L k = batch_in (slice_get L k)
