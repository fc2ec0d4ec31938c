-- What a fault of a session says about the log's file. All notions here are this project's own. `T` is the trace.
use Rattle.std.specs.Prelude.{◌≡◌, ◌≢◌, ◌⊎◌, ℕ, ◌+◌, List, [], ◌∷◌, ◌++◌, Option, None, length, take, ⊤}
use Rattle.rapid_text.specs.Recording.{Recording}
use Rattle.inverse_log.specs.Answer.{log_after}
use Rattle.inverse_log.specs.Log.{Benched}
use Rattle.inverse_log.specs.declared.call.Call.{Call}
use Rattle.inverse_log.specs.declared.entry.Entry.{Entry}
use Rattle.client_scripts.specs.declared.fault.ReadCause.{ReadCause}
use Rattle.client_scripts.specs.declared.fault.ReadCause.TheVariants.{Device as DeviceFailed}
use Rattle.client_scripts.specs.declared.fault.ReplayFault.{ReplayFault}
use Rattle.client_scripts.specs.declared.fault.ReplayFault.TheVariants.{Read, Write, OutOfMemory as NoMemory}
use Rattle.kept_log.specs.Log.{lines_behind}
use Rattle.kept_log.specs.declared.device.DeviceError.TheVariants.{Memory}
use Rattle.kept_log.specs.declared.log.AppendError.{AppendError}
use Rattle.kept_log.specs.declared.log.AppendError.TheVariants.{OutOfMemory as NoRoom, Full, Device}
use Rattle.kept_session.specs.Sessions.{log_behind, IsLogged, AreLogged}
use Rattle.kept_session.specs.declared.fault.SessionFault.{SessionFault}
use Rattle.kept_session.specs.declared.fault.SessionFault.TheVariants.{Replay, LogLine, OtherTrace}

-- the log's file could not be read, because its device failed; the input could not be read for this reason
abbrev pub log_failed : SessionFault
log_failed = Replay (Read 2 DeviceFailed)

abbrev pub input_failed : SessionFault
input_failed = Replay (Read 3 DeviceFailed)

-- P holds if the fault is a failed read of the log's file; if it is a failed write
abbrev pub IfUnread : Type 0 → SessionFault → Type 0
IfUnread P fault = fault ≡ log_failed → P

abbrev pub IfUnwritten : Type 0 → SessionFault → Type 0
IfUnwritten P fault = fault ≡ Replay Write → P

-- if an input could not be read, it is the one with this number
abbrev pub IsOfInput : ℕ → SessionFault → Type 0
IsOfInput number fault = (input : ℕ) (why : ReadCause) → fault ≡ Replay (Read input why) → input ≡ number

-- The calls of `lines` are made from the log L on. The first line that adds no entry has this number in the file. The
-- head is line 1, and each entry of L has a line.
pub record IsFirstRefused (T : Recording) (L : List Entry) (lines : List (List ℕ)) (number : ℕ) : Type 0 where
  pub before : List (List ℕ)
  pub line : List ℕ
  pub behind : List (List ℕ)
  pub split : lines ≡ before ++ line ∷ behind
  pub logged : AreLogged T L before
  pub refused : ¬ IsLogged T (log_behind T L before) line
  pub place : number ≡ length L + length before + 2

-- the fault of the line after those of L: memory ran out, or the line adds no entry, and the fault has its number
abbrev pub IsLineFault : Recording → List Entry → List ℕ → SessionFault → Type 0
IsLineFault T L line fault = (fault ≡ Replay NoMemory) ⊎ ((fault ≡ LogLine (length L + 2)) × ¬ IsLogged T L line)

-- the fault of a line with this call and this number: memory ran out, or the call adds no entry
abbrev pub IsCallFault : Benched → ℕ → Call → ℕ → SessionFault → Type 0
IsCallFault bench client call number fault =
    (fault ≡ Replay NoMemory)
    ⊎ ((fault ≡ LogLine number) × (length (log_after bench.trace bench.log client call) ≢ length bench.log + 1))

-- the fault of lines whose calls are made from the log L on
abbrev pub IsLinesFault : Recording → List Entry → List (List ℕ) → SessionFault → Type 0
IsLinesFault T L lines fault = (fault ≡ Replay NoMemory) ⊎ ((number : ℕ) × (fault ≡ LogLine number) × IsFirstRefused T L lines number)

-- the fault of the log's file, which is input 2: it could not be read or written, or memory ran out
abbrev pub IsFileFault : ReplayFault → Type 0
IsFileFault (Read input why) = (input ≡ 2) × (why ≡ DeviceFailed)
IsFileFault Write = ⊤
IsFileFault NoMemory = ⊤
IsFileFault fault = ⊥

-- The fault of a turn. `known` are the lines before the turn, and `seen` are the lines that the file has now.
-- `before` and `now` are what the lock has found, before the turn and now. `LogLine` names the first line that adds
-- no entry, or the line of the last known entry if the file got shorter.
abbrev pub IsTurnFault : Recording → List (List ℕ) → List (List ℕ) → List (Option (List ℕ)) → List (Option (List ℕ)) → SessionFault → Type 0
IsTurnFault T known seen before now (Replay fault) = IsFileFault fault
IsTurnFault T known seen before now (LogLine number) = IsFirstRefused T [] seen number ⊎ ((number ≡ length known + 1) × (now ≡ None ∷ before))
IsTurnFault T known seen before now OtherTrace = ⊥

-- The fault of a file before its lines are read. `OtherTrace` means that the file does not begin with this head.
abbrev pub IsHeadFault : List ℕ → List ℕ → SessionFault → Type 0
IsHeadFault head seen (Replay fault) = IsFileFault fault
IsHeadFault head seen (LogLine number) = ⊥
IsHeadFault head seen OtherTrace = take (length head) seen ≢ head

-- The fault of opening: the same, or the first line that adds no entry.
abbrev pub IsOpenFault : Recording → List ℕ → List ℕ → SessionFault → Type 0
IsOpenFault T head seen (Replay fault) = IsFileFault fault
IsOpenFault T head seen (LogLine number) = IsFirstRefused T [] (lines_behind (length head) seen) number
IsOpenFault T head seen OtherTrace = take (length head) seen ≢ head

-- The fault of making a file: it is not empty, or could not be read or written, or memory ran out.
abbrev pub IsMakeFault : SessionFault → Type 0
IsMakeFault (Replay fault) = IsFileFault fault
IsMakeFault (LogLine number) = ⊥
IsMakeFault OtherTrace = ⊤

-- The fault of printing a log. Its file, input 2, could not be read, or does not begin with a head. Or the text could
-- not be written, or memory ran out.
abbrev pub IsPrintFault : SessionFault → Type 0
IsPrintFault (Replay (Read input why)) = input ≡ 2
IsPrintFault (Replay Write) = ⊤
IsPrintFault (Replay NoMemory) = ⊤
IsPrintFault (Replay fault) = ⊥
IsPrintFault (LogLine number) = number ≡ 1
IsPrintFault OtherTrace = ⊥

-- the fault of a block that was not added: out of memory if there was no memory for the block or in the device, else a
-- failed write, for any reason
abbrev pub IsWriteFault : AppendError → SessionFault → Type 0
IsWriteFault NoRoom fault = fault ≡ Replay NoMemory
IsWriteFault Full fault = fault ≡ Replay Write
IsWriteFault (Device why) fault = (why ≡ Memory → fault ≡ Replay NoMemory) × (why ≢ Memory → fault ≡ Replay Write)
