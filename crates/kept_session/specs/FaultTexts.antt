-- The text of a session's fault, without a line feed.
use Rattle.std.specs.Prelude.{ℕ, List, ◌++◌, codes, decimal}
use Rattle.client_scripts.specs.FaultTexts.{fault_words}
use Rattle.kept_session.specs.declared.fault.SessionFault.{SessionFault}
use Rattle.kept_session.specs.declared.fault.SessionFault.TheVariants.{Replay, LogLine, OtherTrace}

abbrev pub session_fault_words : SessionFault → List ℕ
session_fault_words (Replay fault) = fault_words fault
session_fault_words (LogLine line) = codes "log file line " ++ decimal line
session_fault_words OtherTrace = codes "log of another trace"
