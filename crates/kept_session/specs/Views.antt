-- What the contracts of a session say about its bench, its log and the lines that it answers. `T` is the trace.
use Rattle.std.specs.Prelude.{◌≡◌, ◌<◌, ℕ, List, ◌∷◌, ◌++◌, Option, Some, false}
use Rattle.std.specs.List.{slice_split}
use Rattle.rapid_text.specs.Recording.{Recording}
use Rattle.rapid_text.specs.Reading.{is_line_feed}
use Rattle.inverse_log.specs.Log.{Benched}
use Rattle.inverse_log.specs.declared.entry.Entry.{Entry}
use Rattle.kept_log.specs.Moments.{LeavesOnly}
use Rattle.kept_log.specs.Log.{BeginsWith, IsAtRest, IsTooMuch, head_of, lines_of, lines_behind}
use Rattle.kept_log.specs.declared.device.Device.{Ghosts}
use Rattle.kept_log.specs.declared.log.KeptLog.{KeptLog}
use Rattle.kept_session.specs.Faults.{IsTurnFault}
use Rattle.kept_session.specs.Sessions.{AreGained, IsAtWork, IsTurn, log_of}
use Rattle.kept_session.specs.declared.fault.SessionFault.{SessionFault}

-- the trace of a bench, and its log
abbrev pub trace_of : Benched → Recording
trace_of bench = bench.trace

abbrev pub entries_of : Benched → List Entry
entries_of bench = bench.log

-- the lines of a piece of the input
abbrev pub lines_in : List ℕ → List (List ℕ)
lines_in piece = slice_split is_line_feed piece

module _ {D : Type 0} (disk : Ghosts D) where
  -- the lock of the log's file is free
  abbrev pub IsFree : KeptLog D → Type 0
  IsFree log = disk.is_held log.device ≡ false

  -- no operation on the file has failed in between
  abbrev pub IsUnfailed : KeptLog D → KeptLog D → Type 0
  IsUnfailed old new = disk.faults new.device ≡ disk.faults old.device

  -- an operation on the file has failed in between
  abbrev pub IsFailedBetween : KeptLog D → KeptLog D → Type 0
  IsFailedBetween old new = disk.faults old.device < disk.faults new.device

  -- The file is at rest. With the lines of all calls of a piece it would be longer than a file of a log can be.
  abbrev pub IsTooLong : Recording → Option ℕ → ℕ → List (List ℕ) → KeptLog D → Type 0
  IsTooLong T client first raws log =
      (gained : List (List ℕ)) × AreGained T client first raws (log_of T (lines_of disk log)) gained × IsTooMuch log gained × IsAtRest disk log

  -- from now on each crash leaves a file whose lines begin with those of the log
  abbrev pub IsKept : KeptLog D → Type 0
  IsKept log = (c : List ℕ) → disk.may_leave log.device c → BeginsWith (head_of disk log) (lines_of disk log) c

  -- in between, a crash at any moment left a file whose lines begin with the known ones
  abbrev pub LeavesKnown : KeptLog D → KeptLog D → Type 0
  LeavesKnown old new = LeavesOnly disk old.device new.device (BeginsWith (head_of disk old) (lines_of disk old))

  -- The lock was taken once, and these lines were answered under it; `first` is the number of the first line. In the
  -- end the bench's log is M.
  abbrev pub IsAnsweredOnce : Recording → Option ℕ → ℕ → List (List ℕ) → KeptLog D → KeptLog D → List Entry → List ℕ → List ℕ → Type 0
  IsAnsweredOnce T client first raws old new M out_old out_new =
      (file : List ℕ) × (disk.found new.device ≡ Some file ∷ disk.found old.device)
      × IsTurn T client first raws (lines_of disk old) (lines_behind new.start file) (lines_of disk new) M out_old out_new

  -- in between, a crash at any moment left a file whose lines begin with those of the log; the device alone is left
  abbrev pub LeavesKnownOn : KeptLog D → D → Type 0
  LeavesKnownOn log device = LeavesOnly disk log.device device (BeginsWith (head_of disk log) (lines_of disk log))

  -- the log has gained these lines
  abbrev pub HasGained : KeptLog D → KeptLog D → List (List ℕ) → Type 0
  HasGained old new gained = lines_of disk new ≡ lines_of disk old ++ gained

  -- the log has gained lines, or none
  abbrev pub HasMoreLines : KeptLog D → KeptLog D → Type 0
  HasMoreLines old new = (others : List (List ℕ)) × HasGained old new others

  -- the lock is held, the file is at rest, and its lines give the log of the bench
  abbrev pub IsAtWorkOn : Benched → KeptLog D → Type 0
  IsAtWorkOn bench log = IsAtWork disk bench.trace log bench.log

  -- the fault of the turn from the one log to the other
  abbrev pub IsFaultBetween : Recording → KeptLog D → KeptLog D → SessionFault → Type 0
  IsFaultBetween T old new fault = IsTurnFault T (lines_of disk old) (lines_of disk new) (disk.found old.device) (disk.found new.device) fault
