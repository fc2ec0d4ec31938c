-- The text of a fault: its place, the number of its cause, and the cause's words.
use Rattle.std.specs.Prelude.{ℕ, List, ◌++◌, Option, Some, None, codes, decimal}
use Rattle.rapid_text.specs.declared.refusal.TextCause.{TextCause}
use Rattle.rapid_text.specs.declared.refusal.TextCause.TheVariants.{NoBar, BadParentheses, UnknownOperation, EmptyName, NameTooLong, LineTooLong as TraceLineTooLong, TooManyEvents, TooManyNames, OutOfMemory as NoTextMemory}
use Rattle.trace_rules.specs.declared.refusal.RuleCause.{RuleCause}
use Rattle.trace_rules.specs.declared.refusal.RuleCause.TheVariants.{ReleaseNotHeld, AcquireHeld, ForkTwice, ForkLate, OwnThread, AfterJoin, OutOfMemory as NoRuleMemory}
use Rattle.script_language.specs.declared.refusal.ScriptCause.{ScriptCause}
use Rattle.script_language.specs.declared.refusal.ScriptCause.TheVariants.{BadWord, BadNumber, BadClient, BadName, LineTooLong as ScriptLineTooLong, OutOfMemory as NoScriptMemory}
use Rattle.client_scripts.specs.declared.fault.ReadCause.{ReadCause}
use Rattle.client_scripts.specs.declared.fault.ReadCause.TheVariants.{Device, TooLong}
use Rattle.client_scripts.specs.declared.fault.ReplayFault.{ReplayFault}
use Rattle.client_scripts.specs.declared.fault.ReplayFault.TheVariants.{Text, Rule, Script, Read, Write, OutOfMemory}

-- what is wrong with a trace line: the cause's number and words; none if memory ran out
abbrev pub text_cause_words : TextCause → Option (List ℕ)
text_cause_words NoBar = Some (codes "1 no bar")
text_cause_words BadParentheses = Some (codes "2 bad parentheses")
text_cause_words UnknownOperation = Some (codes "3 unknown operation")
text_cause_words EmptyName = Some (codes "4 empty name")
text_cause_words NameTooLong = Some (codes "5 name too long")
text_cause_words TraceLineTooLong = Some (codes "6 line too long")
text_cause_words TooManyEvents = Some (codes "7 too many events")
text_cause_words TooManyNames = Some (codes "8 too many names")
text_cause_words NoTextMemory = None

-- the rule that an event breaks
abbrev pub rule_cause_words : RuleCause → Option (List ℕ)
rule_cause_words ReleaseNotHeld = Some (codes "11 release not held")
rule_cause_words AcquireHeld = Some (codes "12 acquire held")
rule_cause_words ForkTwice = Some (codes "13 fork twice")
rule_cause_words ForkLate = Some (codes "14 fork late")
rule_cause_words OwnThread = Some (codes "15 own thread")
rule_cause_words AfterJoin = Some (codes "16 after join")
rule_cause_words NoRuleMemory = None

-- what is wrong with a script line
abbrev pub script_cause_words : ScriptCause → Option (List ℕ)
script_cause_words BadWord = Some (codes "81 bad word")
script_cause_words BadNumber = Some (codes "82 bad number")
script_cause_words BadClient = Some (codes "83 bad client")
script_cause_words BadName = Some (codes "84 bad name")
script_cause_words ScriptLineTooLong = Some (codes "85 line too long")
script_cause_words NoScriptMemory = None

-- words at a numbered place; running out of memory has no place
abbrev pub located_words : List ℕ → ℕ → Option (List ℕ) → List ℕ
located_words place number None = codes "out of memory"
located_words place number (Some words) = place ++ codes " " ++ decimal number ++ codes ": " ++ words

abbrev pub read_cause_words : ReadCause → List ℕ
read_cause_words Device = codes "read failed"
read_cause_words TooLong = codes "input too long"

-- the text of a fault, without a line feed
abbrev pub fault_words : ReplayFault → List ℕ
fault_words (Text refusal) = located_words (codes "trace line") refusal.line (text_cause_words refusal.why)
fault_words (Rule refusal) = located_words (codes "trace event") refusal.event (rule_cause_words refusal.why)
fault_words (Script refusal) = located_words (codes "script line") refusal.line (script_cause_words refusal.why)
fault_words (Read input why) = read_cause_words why
fault_words Write = codes "write failed"
fault_words OutOfMemory = codes "out of memory"
