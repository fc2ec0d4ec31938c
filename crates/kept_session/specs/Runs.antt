-- What a session does with its input, turn after turn, until the input ends or there is a fault. All notions here are
-- this project's own. `T` is the trace.
use Rattle.std.specs.Prelude.{◌≡◌, ◌≢◌, ◌⊎◌, ℕ, ◌<◌, Bool, true, false, List, [], ◌∷◌, ◌++◌, Option, Some, length, take}
use Rattle.std.specs.List.{slice_split}
use Rattle.std.specs.Io.KnownBytes.{Appends, Consumes}
use Rattle.rapid_text.specs.Recording.{Recording}
use Rattle.rapid_text.specs.Reading.{is_line_feed}
use Rattle.client_scripts.specs.Replay.{IsUnreadable}
use Rattle.client_scripts.specs.declared.fault.ReadCause.{ReadCause}
use Rattle.client_scripts.specs.declared.fault.ReadCause.TheVariants.{Device as DeviceFailed}
use Rattle.client_scripts.specs.declared.sink.Sink.{Ghosts as Sinks}
use Rattle.client_scripts.specs.declared.source.Source.{Ghosts as Sources}
use Rattle.inverse_log.specs.Log.{Benched}
use Rattle.client_scripts.specs.declared.fault.ReplayFault.TheVariants.{Read, Write}
use Rattle.kept_log.specs.Log.{IsAsFound, LosesNone, head_of, lines_of, lines_behind}
use Rattle.kept_log.specs.declared.device.Device.{Ghosts}
use Rattle.kept_log.specs.declared.log.KeptLog.{KeptLog}
use Rattle.kept_session.specs.Faults.{IsTurnFault}
use Rattle.kept_session.specs.Sessions.{IsAllOrNone, IsTurn, log_of, number_behind}
use Rattle.kept_session.specs.Views.{IsFailedBetween, IsTooLong}
use Rattle.kept_session.specs.declared.fault.SessionFault.{SessionFault}
use Rattle.kept_session.specs.declared.fault.SessionFault.TheVariants.{Replay}

module _ {D : Type 0} (disk : Ghosts D) (T : Recording) (client : Option ℕ) where
  -- A turn of a log. These lines have this text as their answers; `number` is the number of the first line. The
  -- file's lock was taken once, and `file` is what the file had then. The head stays the same.
  pub record IsLogTurn (number : ℕ) (raws : List (List ℕ)) (old new : KeptLog D) (text : List ℕ) : Type 0 where
    pub file : List ℕ
    pub once : disk.found new.device ≡ Some file ∷ disk.found old.device
    pub head : head_of disk new ≡ head_of disk old
    pub turn : IsTurn T client number raws (lines_of disk old) (lines_behind new.start file) (lines_of disk new) (log_of T (lines_of disk new)) [] text

  -- Turns, one after another, from the log `old` to the log `new`. These lines have this text as their answers, each
  -- line in one turn; `number` is the number of the first line.
  pub data AreTurns (number : ℕ) (old : KeptLog D) : List (List ℕ) → List ℕ → KeptLog D → Type 0 where
    no_turn : AreTurns number old [] [] old
    one_more : (raws more : List (List ℕ)) (text answers : List ℕ) (log new : KeptLog D) → AreTurns number old raws text log → IsLogTurn (number_behind number raws) more log new answers
        → AreTurns number old (raws ++ more) (text ++ answers) new

  -- The first lines of `bytes` were answered in turns, with this text as their answers. The other lines are left.
  pub record IsRun (number : ℕ) (old new : KeptLog D) (bytes : List ℕ) (left : List (List ℕ)) (text : List ℕ) : Type 0 where
    pub asked : List (List ℕ)
    pub turns : AreTurns number old asked text new
    pub split : slice_split is_line_feed bytes ≡ asked ++ left

  -- All lines of `bytes` were answered, and the answers were written. An empty last line needs no answer.
  pub record IsFinished (number : ℕ) (old new : KeptLog D) (bytes : List ℕ) (taken_old taken_new : Option (List ℕ)) : Type 0 where
    pub text : List ℕ
    pub left : List (List ℕ)
    pub run : IsRun number old new bytes left text
    pub whole : (left ≡ []) ⊎ (left ≡ [] ∷ [])
    pub written : Appends taken_old taken_new text

  -- A fault after turns that left `log`. Their answers, `text`, were written, and nothing else was. The fault may have
  -- ended a turn for the first of the lines left. That turn lost no line, and the file has the lines of all its calls or
  -- of none. Unless a write failed, it has none. The fault is a failed read of the file only if an operation on the file
  -- failed. So it is with a failed write, unless the file would have been too long with the lines of the turn.
  pub record IsUnanswered (number : ℕ) (log new : KeptLog D) (text : List ℕ) (left : List (List ℕ)) (failed : Bool) (taken_old taken_new : Option (List ℕ)) (fault : SessionFault) : Type 0 where
    pub more : List (List ℕ)
    pub beyond : List (List ℕ)
    pub next : left ≡ more ++ beyond
    pub working : failed ≡ false
    pub written : Appends taken_old taken_new text
    pub none_lost : LosesNone disk log new
    pub whole : IsAsFound disk log new ⊎ IsAllOrNone disk T client number more log new
    pub unchanged : fault ≢ Replay Write → IsAsFound disk log new
    pub read_failed : fault ≡ Replay (Read 2 DeviceFailed) → IsFailedBetween disk log new
    pub write_failed : fault ≡ Replay Write → IsFailedBetween disk log new ⊎ IsTooLong disk T client number more new
    pub told : IsTurnFault T (lines_of disk log) (lines_of disk new) (disk.found log.device) (disk.found new.device) fault
        ⊎ ((why : ReadCause) × (fault ≡ Replay (Read 3 why)))

  -- A failed write after turns that left `log` and have the answers `text`. The first of the lines left were answered
  -- in one more turn. The writer took all answers but the last bytes of that turn.
  pub record IsUnwritten (number : ℕ) (log new : KeptLog D) (text : List ℕ) (left : List (List ℕ)) (failed : Bool) (taken_old taken_new : Option (List ℕ)) (fault : SessionFault) : Type 0 where
    pub more : List (List ℕ)
    pub beyond : List (List ℕ)
    pub answers : List ℕ
    pub count : ℕ
    pub next : left ≡ more ++ beyond
    pub turn : IsLogTurn number more log new answers
    pub short : count < length answers
    pub written : Appends taken_old taken_new (text ++ take count answers)
    pub broken : failed ≡ true
    pub told : fault ≡ Replay Write

  -- A fault. The first lines of `bytes` were answered in turns, and their answers were written. If input 3 could not be
  -- read on, only one line is left, and it has no end.
  pub record IsHalted (number : ℕ) (old new : KeptLog D) (bytes : List ℕ) (failed : Bool) (taken_old taken_new : Option (List ℕ)) (fault : SessionFault) : Type 0 where
    pub log : KeptLog D
    pub text : List ℕ
    pub left : List (List ℕ)
    pub run : IsRun number old log bytes left text
    pub behind : IsUnanswered (number_behind number run.asked) log new text left failed taken_old taken_new fault
        ⊎ IsUnwritten (number_behind number run.asked) log new text left failed taken_old taken_new fault
    pub unread : (why : ReadCause) → fault ≡ Replay (Read 3 why) → (line : List ℕ) × (left ≡ line ∷ []) × IsUnreadable bytes why

-- A session has answered everything that it has read.
abbrev pub IsWholeRun : {D S K : Type 0} → Ghosts D → Sources S → Sinks K → Benched → Option ℕ → KeptLog D → KeptLog D → S → S → K → K → Type 0
IsWholeRun disk source sink bench client old new reader_old reader_new writer_old writer_new =
    (bytes : List ℕ) × Consumes (source.rest reader_old) (source.rest reader_new) bytes
    × IsFinished disk bench.trace client 1 old new bytes (sink.taken writer_old) (sink.taken writer_new)

-- A session has answered the first lines of what it has read, and then this fault came.
abbrev pub IsHaltedRun : {D S K : Type 0} → Ghosts D → Sources S → Sinks K → Benched → Option ℕ → KeptLog D → KeptLog D → S → S → K → K → SessionFault → Type 0
IsHaltedRun disk source sink bench client old new reader_old reader_new writer_old writer_new fault =
    (bytes : List ℕ) × Consumes (source.rest reader_old) (source.rest reader_new) bytes
    × IsHalted disk bench.trace client 1 old new bytes (sink.has_failed writer_new) (sink.taken writer_old) (sink.taken writer_new) fault
