-- What a replay returns and writes: the answers to a script's calls, made one after another, or the fault that comes
-- before them. All notions here are this project's own.
use Rattle.std.specs.Prelude.{◌≡◌, ◌⊎◌, ℕ, ◌<◌, ◌≤◌, List, [], ◌∷◌, length, take, filter, flat_map, Option, Result, Ok, Err, IfSome, is_ok, is_err, ⊤}
use Rattle.std.specs.Io.KnownBytes.{Appends}
use Rattle.rapid_text.specs.Recording.{Recording}
use Rattle.inverse_log.specs.Answer.{answer_of, log_after}
use Rattle.inverse_log.specs.declared.entry.Entry.{Entry}
use Rattle.inverse_log.specs.declared.refusal.Refusal.{Refusal}
use Rattle.inverse_log.specs.declared.reply.Reply.{Reply}
use Rattle.report.specs.Refusals.{refusal_text}
use Rattle.report.specs.Replies.{reply_text}
use Rattle.client_scripts.specs.Joint.{trace_part, script_part}
use Rattle.script_language.specs.Scripts.{Asked, IsScript}
use Rattle.client_scripts.specs.Traces.{trace_of}
use Rattle.client_scripts.specs.declared.fault.ReadCause.{ReadCause}
use Rattle.client_scripts.specs.declared.fault.ReadCause.TheVariants.{Device, TooLong}
use Rattle.client_scripts.specs.declared.fault.ReplayFault.{ReplayFault}
use Rattle.client_scripts.specs.declared.fault.ReplayFault.TheVariants.{Text, Rule, Script, Read, Write, OutOfMemory}
use Rattle.client_scripts.specs.declared.fault.Tally.{Tally}
use Rattle.client_scripts.specs.declared.fault.TheConstants.{LIMIT}

-- the line of an answer
abbrev pub answer_text : Recording → Result Reply Refusal → List ℕ
answer_text trace (Ok reply) = reply_text reply
answer_text trace (Err why) = refusal_text trace why

-- the answers to these calls, made one after another from this log on
abbrev pub answers_behind : Recording → List Entry → List Asked → List (Result Reply Refusal)
answers_behind trace log [] = []
answers_behind trace log (asked ∷ more) =
    answer_of trace log asked.client asked.call ∷ answers_behind trace (log_after trace log asked.client asked.call) more

-- the lines of the answers, in order
abbrev pub answers_text : Recording → List (Result Reply Refusal) → List ℕ
answers_text trace answers = flat_map (answer_text trace) answers

-- the lines of a script's calls, made from the empty log on
abbrev pub script_text : Recording → List Asked → List ℕ
script_text trace asked = answers_text trace (answers_behind trace [] asked)

-- the number of answers, of replies among them, and of refusals
abbrev pub tally_of : Recording → List Asked → Tally
tally_of trace asked =
    let answers = answers_behind trace [] asked in
    record { calls = length answers; accepted = length (filter is_ok answers); refused = length (filter is_err answers) }

-- What a replay gets: its inputs as they are read, and the texts of the trace and the script in them.
pub record Texts : Type 0 where
  pub first : List ℕ
  pub second : List ℕ
  pub trace : List ℕ
  pub script : List ℕ

-- two inputs, a trace and a script
abbrev pub of_two : List ℕ → List ℕ → Texts
of_two trace script = record { first = trace; second = script; trace = trace; script = script }

-- one input: a trace, a line `---` and a script
abbrev pub of_joint : List ℕ → Texts
of_joint bytes = record { first = bytes; second = []; trace = trace_part bytes; script = script_part bytes }

-- one input, a trace alone
abbrev pub of_trace : List ℕ → Texts
of_trace bytes = record { first = bytes; second = []; trace = bytes; script = [] }

-- the input is not longer than the limit
abbrev pub IsShort : List ℕ → Type 0
IsShort bytes = length bytes ≤ LIMIT

-- The trace is accepted, and the script has these calls.
pub record Said (t : Texts) : Type 0 where
  pub trace : Recording
  pub asked : List Asked
  pub first_short : IsShort t.first
  pub second_short : IsShort t.second
  pub trace_is : trace_of t.trace ≡ Ok trace
  pub script_is : IsScript t.script (Ok asked)

-- the reason why an input cannot be read: any device may fail
abbrev pub IsUnreadable : List ℕ → ReadCause → Type 0
IsUnreadable bytes Device = ⊤
IsUnreadable bytes TooLong = LIMIT < length bytes

-- the trace is accepted
abbrev pub IsAccepted : Texts → Type 0
IsAccepted t = IsShort t.first × (trace : Recording) × (trace_of t.trace ≡ Ok trace)

-- the first input cannot be read; or the trace is accepted, and the second input cannot be read
abbrev pub IsUnread : Texts → ℕ → ReadCause → Type 0
IsUnread t input why =
    ((input ≡ 1) × IsUnreadable t.first why) ⊎ ((input ≡ 2) × IsAccepted t × IsUnreadable t.second why)

-- the fault that comes before the first call: that of the trace, or otherwise that of the script
abbrev pub IsFault : Texts → ReplayFault → Type 0
IsFault t (Text refusal) = IsShort t.first × (trace_of t.trace ≡ Err (Text refusal))
IsFault t (Rule refusal) = IsShort t.first × (trace_of t.trace ≡ Err (Rule refusal))
IsFault t (Read input why) = IsUnread t input why
IsFault t (Script refusal) = IsAccepted t × IsShort t.second × IsScript t.script (Err refusal)
IsFault t fault = ⊥

-- the known bytes grow by a beginning of `bytes`
abbrev pub AppendsPart : Option (List ℕ) → Option (List ℕ) → List ℕ → Type 0
AppendsPart old new bytes = (n : ℕ) × Appends old new (take n bytes)

-- the known bytes grow by a beginning of `bytes`, but not by all
abbrev pub AppendsFewer : Option (List ℕ) → Option (List ℕ) → List ℕ → Type 0
AppendsFewer old new bytes = (n : ℕ) × (n < length bytes) × Appends old new (take n bytes)

-- a beginning of the text was written, or nothing
abbrev pub IsBegun : Texts → Option (List ℕ) → Option (List ℕ) → Type 0
IsBegun t old new = (new ≡ old) ⊎ ((said : Said t) × AppendsPart old new (script_text said.trace said.asked))

-- What a replay returns, and which bytes its writer has taken. If it returns a tally, the writer has the whole text.
-- If the writer failed or memory ran out, it has a beginning of the text. After another fault it has nothing.
abbrev pub IsReplay : Texts → Option (List ℕ) → Option (List ℕ) → Result Tally ReplayFault → Type 0
IsReplay t old new (Ok tally) =
    (said : Said t) × Appends old new (script_text said.trace said.asked) × (tally ≡ tally_of said.trace said.asked)
IsReplay t old new (Err Write) = IsBegun t old new
IsReplay t old new (Err OutOfMemory) = IsBegun t old new
IsReplay t old new (Err fault) = IsFault t fault × (new ≡ old)

-- A trace and a script were replayed. `trace` and `script` are the bytes of their readers, if the readers show them.
abbrev pub IsReplayOfTwo : (trace script old new : Option (List ℕ)) → Result Tally ReplayFault → Type 0
IsReplayOfTwo trace script old new result =
    (first : List ℕ) × (second : List ℕ)
    × IfSome trace (λ told. first ≡ told)
    × IfSome script (λ told. second ≡ told)
    × IsReplay (of_two first second) old new result

-- the same of one input
abbrev pub IsJointReplay : (input old new : Option (List ℕ)) → Result Tally ReplayFault → Type 0
IsJointReplay input old new result =
    (bytes : List ℕ) × IfSome input (λ told. bytes ≡ told) × IsReplay (of_joint bytes) old new result
