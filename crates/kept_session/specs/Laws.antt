-- The lines of a log are a script, and a replay of the script gives the log. `T` is the trace.
use Rattle.std.specs.Prelude.{◌≡◌, ℕ, List, [], ◌∷◌, All, flat_map, length, Option, Ok}
use Rattle.std.specs.Io.KnownBytes.{Appends}
use Rattle.rapid_text.specs.Recording.{Recording}
use Rattle.inverse_log.specs.Answer.{log_after}
use Rattle.inverse_log.specs.declared.entry.Entry.{Entry}
use Rattle.script_language.specs.Scripts.{Asked, IsScript}
use Rattle.client_scripts.specs.Joint.{ended}
use Rattle.client_scripts.specs.Replay.{Texts, IsReplay, script_text, tally_of}
use Rattle.client_scripts.specs.Traces.{trace_of}
use Rattle.client_scripts.specs.declared.fault.Tally.{Tally}
use Rattle.kept_log.specs.Lines.{IsLine}
use Rattle.kept_session.specs.Sessions.{log_of, AreLogged}

-- the log after a script's calls, made one after another from this log on
abbrev pub log_left : Recording → List Entry → List Asked → List Entry
log_left T L [] = L
log_left T L (asked ∷ more) = log_left T (log_after T L asked.client asked.call) more

-- this many calls, all accepted
abbrev pub all_accepted : ℕ → Tally
all_accepted count = record { calls = count; accepted = count; refused = 0 }

-- Each of the lines added an entry to the log. The lines, as they are printed, are a script with a call for each
-- line. Each call is accepted, and the calls give the log that the lines give.
abbrev pub LinesAreScript : Type 0
LinesAreScript =
    (T : Recording) (lines : List (List ℕ))
    → All IsLine lines
    → AreLogged T [] lines
    → (asked : List Asked)
    × IsScript (flat_map ended lines) (Ok asked)
    × (log_left T [] asked ≡ log_of T lines)
    × (tally_of T asked ≡ all_accepted (length lines))

-- Take a replay of `lines` on the trace, from two inputs or from a joint one. If it ends without a fault, it has made
-- exactly the calls of `lines`.
abbrev pub ReplayLeavesLog : Type 0
ReplayLeavesLog =
    (T : Recording) (lines : List (List ℕ)) (t : Texts) (old new : Option (List ℕ)) (tally : Tally)
    → All IsLine lines
    → AreLogged T [] lines
    → trace_of t.trace ≡ Ok T
    → t.script ≡ flat_map ended lines
    → IsReplay t old new (Ok tally)
    → (asked : List Asked)
    × IsScript t.script (Ok asked)
    × (log_left T [] asked ≡ log_of T lines)
    × (tally ≡ all_accepted (length lines))
    × Appends old new (script_text T asked)
