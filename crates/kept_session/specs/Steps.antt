-- What the steps of a session do. No public clause cites this module. `T` is the trace; L and M are the bench's logs
-- before and after a step.
use Rattle.std.specs.Prelude.{◌≡◌, ◌⊎◌, ◌≤◌, ℕ, List, [], ◌∷◌, ◌++◌, length, Option, Some, Result, Ok}
use Rattle.std.specs.List.{slice_split}
use Rattle.std.specs.Io.KnownBytes.{Appends, Consumes}
use Rattle.rapid_text.specs.Reading.{is_line_feed}
use Rattle.rapid_text.specs.Recording.{Recording}
use Rattle.inverse_log.specs.Answer.{Called}
use Rattle.inverse_log.specs.Log.{Benched}
use Rattle.inverse_log.specs.declared.call.Call.{Call}
use Rattle.inverse_log.specs.declared.call.Call.TheVariants.{Undo, UndoAt}
use Rattle.inverse_log.specs.declared.entry.Entry.{Entry}
use Rattle.inverse_log.specs.declared.refusal.Refusal.{Refusal}
use Rattle.inverse_log.specs.declared.reply.Reply.{Reply}
use Rattle.inverse_log.specs.declared.reply.Reply.TheVariants.{Undone}
use Rattle.script_language.specs.Scripts.{script_line_reading}
use Rattle.script_language.specs.declared.refusal.ScriptCause.{ScriptCause}
use Rattle.client_scripts.specs.Replay.{answer_text, IsUnreadable}
use Rattle.client_scripts.specs.declared.fault.ReadCause.TheVariants.{TooLong}
use Rattle.client_scripts.specs.declared.fault.ReplayFault.TheVariants.{Read, OutOfMemory as NoMemory}
use Rattle.client_scripts.specs.declared.sink.Sink.{Ghosts as Sinks}
use Rattle.kept_log.specs.Moments.{LeavesOnly}
use Rattle.kept_log.specs.Log.{IsOldOrNew, head_of, lines_of}
use Rattle.kept_log.specs.declared.device.Device.{Ghosts}
use Rattle.kept_log.specs.declared.log.KeptLog.{KeptLog}
use Rattle.kept_session.specs.Runs.{IsHalted, IsLogTurn, IsRun}
use Rattle.kept_session.specs.Sessions.{log_behind, AreLogged, AreGained, IsAnswered, IsLineAnswered, AreAnswered, number_behind}
use Rattle.kept_session.specs.Views.{lines_in}
use Rattle.kept_session.specs.declared.fault.SessionFault.{SessionFault}
use Rattle.kept_session.specs.declared.fault.SessionFault.TheVariants.{Replay}
use Rattle.kept_session.specs.declared.running.Pending.{Pending}

-- The line reads as the call. If the call is an undo without a number, the line reads as the undo of the entry that
-- the reply names.
abbrev pub SaysCall : ℕ → Call → Reply → List ℕ → Type 0
SaysCall client call reply line =
    (script_line_reading line ≡ Ok (Some (client, call)))
    ⊎ ((n : ℕ) × (k : ℕ) × (call ≡ Undo) × (reply ≡ Undone n k) × (script_line_reading line ≡ Ok (Some (client, UndoAt k))))

-- the line reads as this call of the client
abbrev pub ReadsAsCall : ℕ → Call → List ℕ → Type 0
ReadsAsCall client call line = script_line_reading line ≡ Ok (Some (client, call))

-- a line that reads as the call was added
abbrev pub AddsCallLine : ℕ → Call → Reply → List (List ℕ) → List (List ℕ) → Type 0
AddsCallLine client call reply old new = (line : List ℕ) × (new ≡ old ++ line ∷ []) × SaysCall client call reply line

-- A call was made, and its answer was appended. The block gained the lines of the entries that the log gained.
pub record CallMade (T : Recording) (client : ℕ) (call : Call) (L M : List Entry) (out_old out_new : List ℕ) (block_old block_new : List (List ℕ)) : Type 0 where
  pub answer : Result Reply Refusal
  pub lines : List (List ℕ)
  pub called : Called T L client call answer M
  pub told : out_new ≡ out_old ++ answer_text T answer
  pub kept : block_new ≡ block_old ++ lines
  pub gained : log_behind T L lines ≡ M
  pub logged : AreLogged T L lines

-- the same for a line of a script that reads in this way
pub record ReadingAnswered (T : Recording) (number : ℕ) (reading : Result (Option (ℕ × Call)) ScriptCause) (L M : List Entry) (out_old out_new : List ℕ) (block_old block_new : List (List ℕ)) : Type 0 where
  pub text : List ℕ
  pub lines : List (List ℕ)
  pub answered : IsAnswered T number reading L text M
  pub told : out_new ≡ out_old ++ text
  pub kept : block_new ≡ block_old ++ lines
  pub gained : log_behind T L lines ≡ M
  pub logged : AreLogged T L lines

-- the same for any line
pub record LineAnswered (T : Recording) (client : Option ℕ) (number : ℕ) (raw : List ℕ) (L M : List Entry) (out_old out_new : List ℕ) (block_old block_new : List (List ℕ)) : Type 0 where
  pub text : List ℕ
  pub lines : List (List ℕ)
  pub answered : IsLineAnswered T client number raw L text M
  pub told : out_new ≡ out_old ++ text
  pub kept : block_new ≡ block_old ++ lines
  pub gained : log_behind T L lines ≡ M
  pub logged : AreLogged T L lines

-- the same for lines, one after another
pub record PieceAnswered (T : Recording) (client : Option ℕ) (first : ℕ) (raws : List (List ℕ)) (L M : List Entry) (out_old out_new : List ℕ) (block_old block_new : List (List ℕ)) : Type 0 where
  pub text : List ℕ
  pub lines : List (List ℕ)
  pub answered : AreAnswered T client first raws L text M
  pub told : out_new ≡ out_old ++ text
  pub kept : block_new ≡ block_old ++ lines
  pub gained : log_behind T L lines ≡ M
  pub logged : AreLogged T L lines

-- A piece was answered on a bench, and its lines went to the log.
abbrev pub IsPieceMade : {D : Type 0} → Ghosts D → Option ℕ → ℕ → List (List ℕ) → Benched → Benched → List ℕ → List ℕ → KeptLog D → KeptLog D → Type 0
IsPieceMade disk client first raws before after out_old out_new old new =
    PieceAnswered before.trace client first raws before.log after.log out_old out_new (lines_of disk old) (lines_of disk new)

-- A piece was put into the file whole, or not at all. A crash at any moment leaves the lines from before, with or
-- without these lines; the file that is seen has them too. These are the lines of all calls of the piece, or there
-- are none.
pub record IsPut {D : Type 0} (disk : Ghosts D) (T : Recording) (client : Option ℕ) (first : ℕ) (raws : List (List ℕ))
    (L : List Entry) (old new : KeptLog D) (gained : List (List ℕ)) : Type 0 where
  pub calls : (gained ≡ []) ⊎ AreGained T client first raws L gained
  pub moments : LeavesOnly disk old.device new.device (IsOldOrNew (head_of disk old) (lines_of disk old) gained)
  pub shown : IsOldOrNew (head_of disk old) (lines_of disk old) gained (disk.seen new.device)

-- the same for a piece on this bench, if the file's lines give its log
abbrev pub IsPutOn : {D : Type 0} → Ghosts D → Benched → Option ℕ → ℕ → List (List ℕ) → KeptLog D → KeptLog D → List (List ℕ) → Type 0
IsPutOn disk bench client first raws old new gained = IsPut disk bench.trace client first raws bench.log old new gained

-- Bytes were taken in. Their whole lines were answered, and the answers were written; `number` is the number of the
-- first line. `begun` is the line without an end, and its number is `next`.
pub record IsTakenIn {D : Type 0} (disk : Ghosts D) (T : Recording) (client : Option ℕ) (number next : ℕ) (old new : KeptLog D) (bytes begun : List ℕ) (taken_old taken_new : Option (List ℕ)) : Type 0 where
  pub text : List ℕ
  pub run : IsRun disk T client number old new bytes (begun ∷ []) text
  pub numbers : next ≡ number_behind number run.asked
  pub written : Appends taken_old taken_new text

-- the number of the line after the lines in `pending`
abbrev pub number_beyond : Pending → ℕ
number_beyond pending = number_behind pending.number (lines_in pending.begun.items)

-- the fault of bytes that are kept: memory ran out, or there are too many bytes
abbrev pub IsKeepFault : List ℕ → SessionFault → Type 0
IsKeepFault bytes fault = (fault ≡ Replay NoMemory) ⊎ ((fault ≡ Replay (Read 3 TooLong)) × IsUnreadable bytes TooLong)

-- A session is at work on its input. It has taken in everything that it has read, at least one byte with each read.
pub record IsUnderway {D : Type 0} (disk : Ghosts D) (T : Recording) (client : Option ℕ) (reads next : ℕ) (old new : KeptLog D) (begun : List ℕ) (rest_old rest_new taken_old taken_new : Option (List ℕ)) : Type 0 where
  pub bytes : List ℕ
  pub read : Consumes rest_old rest_new bytes
  pub some : reads ≤ length bytes
  pub taken_in : IsTakenIn disk T client 1 next old new bytes begun taken_old taken_new

module _ {D K : Type 0} (disk : Ghosts D) (sink : Sinks K) (bench : Benched) (client : Option ℕ) where
  -- the lines in `pending` were answered in one turn, and the answers were written
  abbrev pub IsTurnWritten : Pending → KeptLog D → KeptLog D → K → K → Type 0
  IsTurnWritten pending old new writer_old writer_new =
      (text : List ℕ) × IsLogTurn disk bench.trace client pending.number (slice_split is_line_feed pending.begun.items) old new text
      × Appends (sink.taken writer_old) (sink.taken writer_new) text

  -- bytes were taken in after those in `before`
  abbrev pub IsPieceTaken : Pending → Pending → List ℕ → KeptLog D → KeptLog D → K → K → Type 0
  IsPieceTaken before after bytes old new writer_old writer_new =
      IsTakenIn disk bench.trace client before.number after.number old new (before.begun.items ++ bytes) after.begun.items
      (sink.taken writer_old) (sink.taken writer_new)

  -- a fault came while these bytes were answered; `number` is the number of their first line
  abbrev pub IsPieceHalted : ℕ → List ℕ → KeptLog D → KeptLog D → K → K → SessionFault → Type 0
  IsPieceHalted number bytes old new writer_old writer_new fault =
      IsHalted disk bench.trace client number old new bytes (sink.has_failed writer_new) (sink.taken writer_old) (sink.taken writer_new) fault
