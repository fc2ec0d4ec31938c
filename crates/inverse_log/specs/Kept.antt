-- What a bench keeps: its rows, board, inverses and lists are those of its log. No public clause cites this module. `T`
-- is the trace, `L` is the log.
use Rattle.std.specs.Prelude.{◌≡◌, ◌<◌, ℕ, true, false, List, [], ◌∷◌, ◌++◌, Option, Some, None, Result, Ok, Err, IsOk, Vec, length, slice_get, vec_capacity, vec_len}
use Rattle.rapid_text.specs.Recording.{Recording}
use Rattle.trace_rules.specs.Rules.{IsDisciplined}
use Rattle.schedule.specs.Faults.{IsFirstFault}
use Rattle.schedule.specs.Reordering.{IsCorrectReordering}
use Rattle.schedule.specs.Scheduled.{Scheduled}
use Rattle.schedule.specs.Shows.{does_show}
use Rattle.moves.specs.declared.board.Proposal.{Proposal}
use Rattle.moves.specs.declared.batch.BatchRefusal.{BatchRefusal}
use Rattle.moves.specs.declared.batch.BatchRefusal.TheVariants as batch
use Rattle.moves.specs.declared.inverse.Inverse.{Inverse}
use Rattle.moves.specs.declared.row.Row.{Row}
use Rattle.moves.specs.Commands.{writes}
use Rattle.moves.specs.Fold.{Numbered, Leads}
use Rattle.moves.specs.Ages.{age}
use Rattle.moves.specs.Inverses.{Fits, IsStepOf}
use Rattle.moves.specs.Rows.{Rows}
use Rattle.dependence.specs.Lists.{Lists, under, of_client}
use Rattle.inverse_log.specs.declared.entry.Entry.{Entry}
use Rattle.inverse_log.specs.declared.entry.Entry.TheVariants.{Undid}
use Rattle.inverse_log.specs.declared.refusal.Refusal.{Refusal}
use Rattle.inverse_log.specs.declared.refusal.Refusal.TheVariants.{OutOfMemory, NotReordering, NotShown, InBatch}
use Rattle.inverse_log.specs.declared.reply.Reply.{Reply}
use Rattle.inverse_log.specs.Answer.{undone_or, IsLegal}
use Rattle.inverse_log.specs.declared.kept.Held.{Held}
use Rattle.inverse_log.specs.Log.{Live, live, live_of, steps_of, commands_at, board_of, blocker_of, edits_of}
use Rattle.inverse_log.specs.Steps.{inverses_of}
use Rattle.inverse_log.specs.Touching.{touching, own_live}

-- What is kept for a command's entry has an inverse of the command, at the command's index. The inverse fits the row
-- that the command writes, as it was before and after.
pub record HasInverse (T : Recording) (L : List Entry) (steps : List Held) (e : Numbered) (before after : Option Row) : Type 0 where
  pub entry : ℕ
  pub place : ℕ
  pub birth : e.0 ≡ age entry place
  pub low : place < 4294967296
  pub there : entry < length L
  pub held : Held
  pub kept : slice_get steps entry ≡ Some held
  pub whole : length (inverses_of held (commands_at L entry)) ≡ length (commands_at L entry)
  pub inverse : Inverse
  pub at : slice_get (inverses_of held (commands_at L entry)) place ≡ Some inverse
  pub name : inverse.name ≡ writes e.1
  pub fits : Fits inverse.step before after
  pub of : IsStepOf T inverse.step

pub record IsKept (T : Recording) (L : List Entry) (W : Rows) (B : List Proposal) (steps : List Held) : Type 0 where
  -- the rows are the fold of the live entries' commands, and the inverse of each command fits where it was applied
  pub rows : Leads T (board_of T L) (HasInverse T L steps) [] (steps_of (live_of L)) W
  pub board : B ≡ board_of T L
  pub long : length steps ≡ length L

-- e is live
pub record IsLive (L : List Entry) (e : Live) : Type 0 where
  pub earlier : List Live
  pub later : List Live
  pub split : live_of L ≡ earlier ++ e ∷ later

-- the entry k, as a live one of the client c
abbrev pub live_there : List Entry → ℕ → ℕ → Live
live_there L c k = live k c (commands_at L k)

-- The answer to an undo of the live entry e, and the log that it leaves.
abbrev pub IsUndone : List Entry → ℕ → Live → Result Reply Refusal → List Entry → Type 0
IsUndone L c e (Ok reply) M = (undone_or (length L) e (blocker_of L e) ≡ Ok reply) × (M ≡ L ++ Undid c e.number ∷ [])
IsUndone L c e (Err OutOfMemory) M = IsOk (undone_or (length L) e (blocker_of L e)) × (M ≡ L)
IsUndone L c e (Err why) M = (undone_or (length L) e (blocker_of L e) ≡ Err why) × (M ≡ L)

-- The answer of the judge of a proposed list: its schedule, if it is a correct reordering that shows the pair.
-- Otherwise the first index at which it is none, or that it does not show the pair. Or memory ran out.
abbrev pub IsJudged : Recording → ℕ → ℕ → List ℕ → Result Scheduled Refusal → Type 0
IsJudged T a b P (Ok s) =
    (s.trace ≡ T) × (s.events ≡ P) × IsCorrectReordering T.events P × (does_show T.events P a b ≡ true)
IsJudged T a b P (Err (NotReordering p)) = IsFirstFault T.events P p
IsJudged T a b P (Err NotShown) = IsCorrectReordering T.events P × (does_show T.events P a b ≡ false)
IsJudged T a b P (Err OutOfMemory) = Unit {0}
IsJudged T a b P (Err why) = ⊥

-- the refusal of a call whose batch is refused
abbrev pub refused_as : BatchRefusal → Refusal
refused_as (batch.InBatch place cause) = InBatch place cause
refused_as batch.OutOfMemory = OutOfMemory

-- e is live, and no live entry blocks it
pub record IsUnblocked (L : List Entry) (e : Live) : Type 0 where
  pub earlier : List Live
  pub later : List Live
  pub split : live_of L ≡ earlier ++ e ∷ later
  pub free : blocker_of L e ≡ None

-- the vector has room for one more item
abbrev pub CanPush : {X A : Type 0} → Vec X A → Type 0
CanPush items = vec_len items < vec_capacity items

-- the lists are exactly those of the log
pub record IsListed (L : List Entry) (N : Lists) (C : List (List ℕ)) : Type 0 where
  pub names : (x : List ℕ) → under N x ≡ touching L x
  pub clients : (c : ℕ) → of_client C c ≡ own_live L c

pub record IsBench (T : Recording) (L : List Entry) (W : Rows) (B : List Proposal) (steps : List Held) (N : Lists) (C : List (List ℕ)) (edits : ℕ) : Type 0 where
  pub kept : IsKept T L W B steps
  pub listed : IsListed L N C
  pub legal : IsLegal T L
  pub counted : edits ≡ edits_of L
  pub disciplined : IsDisciplined T.events
