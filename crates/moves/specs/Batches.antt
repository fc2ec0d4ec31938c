-- Batches: commands applied one after another, all or none. The commands of a batch get the births n, n + 1 and so on.
use Rattle.std.specs.Prelude.{◌≡◌, ◌<◌, ℕ, ◌+◌, List, [], ◌∷◌, Option, Some, Result, Ok, Err, All, length, reverse, take}
use Rattle.rapid_text.specs.Recording.{Recording}
use Rattle.moves.specs.declared.row.Row.{Row}
use Rattle.moves.specs.declared.board.Proposal.{Proposal}
use Rattle.moves.specs.declared.batch.BatchRefusal.{BatchRefusal}
use Rattle.moves.specs.declared.batch.BatchRefusal.TheVariants.{InBatch, OutOfMemory}
use Rattle.moves.specs.declared.command.Command.{Command}
use Rattle.moves.specs.declared.inverse.Inverse.{Inverse}
use Rattle.moves.specs.declared.refusal.MoveRefusal.{MoveRefusal}
use Rattle.moves.specs.declared.refusal.MoveRefusal.TheVariants.{OutOfMemory as WantsMemory}
use Rattle.moves.specs.Commands.{writes}
use Rattle.moves.specs.Inverses.{turned, Fits, IsStepOf, IsStepBelow}
use Rattle.moves.specs.Moves.{made_at, applied}
use Rattle.moves.specs.Rows.{Rows, row_of, with_row, IsFree}

-- goes on with the rows after a command, or the command at the index k is refused
abbrev pub goes_from : ℕ → (Rows → Result Rows (ℕ × MoveRefusal)) → Result Rows MoveRefusal → Result Rows (ℕ × MoveRefusal)
goes_from k next (Ok V) = next V
goes_from k next (Err why) = Err (k, why)

abbrev pub applied_from : Recording → List Proposal → ℕ → ℕ → List Command → Rows → Result Rows (ℕ × MoveRefusal)
applied_from T B n k [] W = Ok W
applied_from T B n k (d ∷ D) W = goes_from k (λ V. applied_from T B (n + 1) (k + 1) D V) (applied T B n d W)

-- the rows after all of the commands, or the index of the first refused one, from 0, and its refusal
abbrev pub applied_all : Recording → List Proposal → ℕ → List Command → Rows → Result Rows (ℕ × MoveRefusal)
applied_all T B n D W = applied_from T B n 0 D W

-- From W the commands lead to V, one after another, and each has its inverse. The inverse is of the name that the
-- command writes, and fits that name's rows before and after the command.
abbrev pub Runs : Recording → List Proposal → ℕ → List Command → List Inverse → Rows → Rows → Type 0
Runs T B n [] [] W V = W ≡ V
Runs T B n [] (i ∷ I) W V = ⊥
Runs T B n (d ∷ D) [] W V = ⊥
Runs T B n (d ∷ D) (i ∷ I) W V =
    (o : Option Row)
    × (made_at T B n d W ≡ Ok o)
    × (i.name ≡ writes d)
    × Fits i.step (row_of W (writes d)) o
    × Runs T B (n + 1) D I (with_row W (writes d) o) V

-- All commands are applied, each with its inverse. Or this is the first refused one, or memory runs out, also instead
-- of a refusal; then the rows stay. W are the rows before, V those after.
abbrev pub IsAppliedAll : Recording → List Proposal → ℕ → List Command → Rows → Rows → Result (List Inverse) BatchRefusal → Type 0
IsAppliedAll T B n D W V (Ok I) = (applied_all T B n D W ≡ Ok V) × Runs T B n D I W V
IsAppliedAll T B n D W V (Err (InBatch place cause)) = (applied_all T B n D W ≡ Err (place, cause)) × (V ≡ W)
IsAppliedAll T B n D W V (Err OutOfMemory) = V ≡ W

-- all commands before one of the list were applied
abbrev pub HasRun : Recording → List Proposal → ℕ → List Command → Rows → Rows → List Inverse → Type 0
HasRun T B n D W V I = (k : ℕ) × (k < length D) × Runs T B n (take k D) I W V

-- the same as `IsAppliedAll`, except that the rows keep what was applied before a refusal
abbrev pub IsRun : Recording → List Proposal → ℕ → List Command → Rows → Rows → List Inverse → Result (Unit {0}) BatchRefusal → Type 0
IsRun T B n D W V I (Ok u) = (applied_all T B n D W ≡ Ok V) × Runs T B n D I W V
IsRun T B n D W V I (Err (InBatch place cause)) = (applied_all T B n D W ≡ Err (place, cause)) × HasRun T B n D W V I
IsRun T B n D W V I (Err OutOfMemory) = HasRun T B n D W V I

-- The steps are taken one after another from W to V, the first of the list first. Each can be taken when its turn
-- comes.
abbrev pub Turns : List Inverse → Rows → Rows → Type 0
Turns [] W V = W ≡ V
Turns (i ∷ I) W V =
    (o : Option Row) × (turned i.step (row_of W i.name) ≡ Some o) × IsFree W i.name o × Turns I (with_row W i.name o) V

-- the inverses of a batch are taken from the last to the first
abbrev pub IsTurnedAll : List Inverse → Rows → Rows → Type 0
IsTurnedAll I W V = Turns (reverse I) W V

abbrev pub CanTurnAll : List Inverse → Rows → Type 0
CanTurnAll I W = (V : Rows) × IsTurnedAll I W V

-- what the steps add is of the trace T
abbrev pub AreOfTrace : Recording → List Inverse → Type 0
AreOfTrace T I = All (λ (i : Inverse). IsStepOf T i.step) I

-- the births of the rows that the steps add are below n
abbrev pub AreBelow : ℕ → List Inverse → Type 0
AreBelow n I = All (λ (i : Inverse). IsStepBelow n i.step) I

-- the inverses can be taken at the rows V, and lead from there to W and to no other rows
abbrev pub TakesAllBack : List Inverse → Rows → Rows → Type 0
TakesAllBack I V W = CanTurnAll I V × ((U : Rows) → IsTurnedAll I V U → U ≡ W)

-- the refusal of a command in a batch
abbrev pub refused_as : ℕ → MoveRefusal → BatchRefusal
refused_as place WantsMemory = OutOfMemory
refused_as place cause = InBatch place cause
