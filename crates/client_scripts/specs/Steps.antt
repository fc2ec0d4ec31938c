-- What the steps of a replay return. No public clause cites this module.
use Rattle.std.specs.Prelude.{◌≡◌, ◌⊎◌, ℕ, ◌<◌, Bool, List, ◌++◌, length, slice_get, Option, Some, option_map, Result, Ok, Err, is_ok, Vec, IfSome, ⊤}
use Rattle.std.specs.Io.KnownBytes.{Appends}
use Rattle.std.specs.declared.alloc.Global.{Global}
use Rattle.rapid_text.specs.Recording.{Recording}
use Rattle.rapid_text.specs.declared.refusal.TextCause.{TextCause}
use Rattle.rapid_text.specs.declared.refusal.TextCause.TheVariants.{OutOfMemory as NoTextMemory}
use Rattle.rapid_text.specs.declared.refusal.TextRefusal.{TextRefusal}
use Rattle.trace_rules.specs.declared.refusal.RuleCause.{RuleCause}
use Rattle.trace_rules.specs.declared.refusal.RuleCause.TheVariants.{OutOfMemory as NoRuleMemory}
use Rattle.trace_rules.specs.declared.refusal.RuleRefusal.{RuleRefusal}
use Rattle.inverse_log.specs.Answer.{answer_of, log_after}
use Rattle.inverse_log.specs.declared.call.Call.{Call}
use Rattle.inverse_log.specs.declared.entry.Entry.{Entry}
use Rattle.inverse_log.specs.declared.refusal.Refusal.{Refusal}
use Rattle.inverse_log.specs.declared.reply.Reply.{Reply}
use Rattle.inverse_log.specs.Log.{Benched}
use Rattle.client_scripts.specs.Replay.{AppendsPart, IsReplay, IsShort, answer_text, of_two, script_text, tally_of}
use Rattle.client_scripts.specs.Traces.{trace_of}
use Rattle.script_language.specs.Scripts.{Asked, IsScript}
use Rattle.client_scripts.specs.declared.fault.ReadCause.TheVariants.{Device, TooLong}
use Rattle.client_scripts.specs.declared.fault.ReadFault.{ReadFault}
use Rattle.client_scripts.specs.declared.fault.ReadFault.TheVariants.{Device as NoDevice, TooLong as PastLimit, OutOfMemory as NoReadMemory}
use Rattle.client_scripts.specs.declared.fault.ReplayFault.{ReplayFault}
use Rattle.client_scripts.specs.declared.fault.ReplayFault.TheVariants.{Text, Rule, Script, Read, Write, OutOfMemory}
use Rattle.script_language.specs.declared.refusal.ScriptCause.{ScriptCause}
use Rattle.script_language.specs.declared.refusal.ScriptCause.TheVariants.{OutOfMemory as NoScriptMemory}
use Rattle.script_language.specs.declared.refusal.ScriptRefusal.{ScriptRefusal}
use Rattle.client_scripts.specs.declared.fault.Tally.{Tally}
use Rattle.client_scripts.specs.declared.fault.TheConstants.{LIMIT}

-- the faults for refusals of the text, of the rules and of the script; running out of memory has a separate fault
abbrev pub text_fault : TextRefusal → TextCause → ReplayFault
text_fault refusal NoTextMemory = OutOfMemory
text_fault refusal why = Text refusal

abbrev pub rule_fault : RuleRefusal → RuleCause → ReplayFault
rule_fault refusal NoRuleMemory = OutOfMemory
rule_fault refusal why = Rule refusal

abbrev pub script_fault : ScriptRefusal → ScriptCause → ReplayFault
script_fault refusal NoScriptMemory = OutOfMemory
script_fault refusal why = Script refusal

-- the fault for the input with this number, which could not be read
abbrev pub read_fault : ℕ → ReadFault → ReplayFault
read_fault input NoDevice = Read input Device
read_fault input PastLimit = Read input TooLong
read_fault input NoReadMemory = OutOfMemory

-- the whole input, or the reason why it could not be read
abbrev pub IsInput : ℕ → Option (List ℕ) → Result (Vec ℕ Global) ReplayFault → Type 0
IsInput input rest (Ok bytes) = IsShort bytes.items × IfSome rest (λ told. bytes.items ≡ told)
IsInput input rest (Err (Read place Device)) = place ≡ input
IsInput input rest (Err (Read place TooLong)) = (place ≡ input) × IfSome rest (λ told. LIMIT < length told)
IsInput input rest (Err OutOfMemory) = ⊤
IsInput input rest (Err fault) = ⊥

-- The script's call with this index was made at this log, and `after` is the log after it. The line of its answer was
-- appended.
pub record MakesCall (trace : Recording) (script : List Asked) (at : ℕ) (log : List Entry) (accepted : Bool) (old : List ℕ) (after : List Entry) (new : List ℕ) : Type 0 where
  pub asked : ℕ × Call
  pub there : option_map (λ (a : Asked). (a.client, a.call)) (slice_get script at) ≡ Some asked
  pub text : new ≡ old ++ answer_text trace (answer_of trace log asked.0 asked.1)
  pub reply : accepted ≡ is_ok (answer_of trace log asked.0 asked.1)
  pub logged : after ≡ log_after trace log asked.0 asked.1

-- the answer to the client's call on the bench, and its line
abbrev pub answer_on : Benched → ℕ → Call → Result Reply Refusal
answer_on bench client call = answer_of bench.trace bench.log client call

abbrev pub answer_line : Benched → ℕ → Call → List ℕ
answer_line bench client call = answer_text bench.trace (answer_on bench client call)

-- the script's call with this index was made on the bench, and the line of its answer was appended
abbrev pub MakesCallOn : List Asked → ℕ → Benched → Benched → List ℕ → List ℕ → Bool → Type 0
MakesCallOn script at old new out_old out_new accepted =
    MakesCall old.trace script at old.log accepted out_old new.log out_new

-- The line comes after the bytes that were kept before. The writer has taken a beginning of the kept bytes and the
-- line, and the rest is kept.
abbrev pub HandsOn : Option (List ℕ) → Option (List ℕ) → List ℕ → List ℕ → List ℕ → Type 0
HandsOn old new kept kept_now line = (out : List ℕ) × Appends old new out × (out ++ kept_now ≡ kept ++ line)

-- the state after the calls: the whole text and its tally, or a beginning of the text
abbrev pub IsRun : Recording → List Asked → Option (List ℕ) → Option (List ℕ) → Result Tally ReplayFault → Type 0
IsRun trace asked old new (Ok tally) =
    Appends old new (script_text trace asked) × (tally ≡ tally_of trace asked)
IsRun trace asked old new (Err Write) = AppendsPart old new (script_text trace asked)
IsRun trace asked old new (Err OutOfMemory) = AppendsPart old new (script_text trace asked)
IsRun trace asked old new (Err fault) = ⊥

-- the same for a script's text, which is read first
abbrev pub IsScriptRun : Recording → List ℕ → Option (List ℕ) → Option (List ℕ) → Result Tally ReplayFault → Type 0
IsScriptRun trace text old new (Err (Script refusal)) = IsScript text (Err refusal) × (new ≡ old)
IsScriptRun trace text old new (Err OutOfMemory) =
    (new ≡ old) ⊎ ((asked : List Asked) × IsScript text (Ok asked) × IsRun trace asked old new (Err OutOfMemory))
IsScriptRun trace text old new result = (asked : List Asked) × IsScript text (Ok asked) × IsRun trace asked old new result

-- A script was replayed on the trace. `script` is the bytes of its reader, if the reader shows them.
abbrev pub IsReplayOn : Recording → (script old new : Option (List ℕ)) → Result Tally ReplayFault → Type 0
IsReplayOn trace script old new result =
    (first : List ℕ)
    → IsShort first
    → trace_of first ≡ Ok trace
    → (second : List ℕ)
    × IfSome script (λ told. second ≡ told)
    × IsReplay (of_two first second) old new result
