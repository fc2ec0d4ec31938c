-- What a trace text gives: the trace, or the refusal of the text or of the rules.
use Rattle.std.specs.Prelude.{ℕ, List, Option, Some, None, Result, Ok, Err}
use Rattle.rapid_text.specs.Reading.{reading_of}
use Rattle.rapid_text.specs.Recording.{Recording}
use Rattle.rapid_text.specs.declared.refusal.TextRefusal.{TextRefusal}
use Rattle.trace_rules.specs.Rules.{first_breach}
use Rattle.trace_rules.specs.declared.refusal.RuleRefusal.{RuleRefusal}
use Rattle.client_scripts.specs.declared.fault.ReplayFault.{ReplayFault}
use Rattle.client_scripts.specs.declared.fault.ReplayFault.TheVariants.{Text, Rule}

-- a recording, unless it breaks a rule
abbrev pub trace_checked : Recording → Option RuleRefusal → Result Recording ReplayFault
trace_checked trace None = Ok trace
trace_checked trace (Some refusal) = Err (Rule refusal)

-- the recording that was read, unless it breaks a rule; or the refusal of the text
abbrev pub trace_read : Result Recording TextRefusal → Result Recording ReplayFault
trace_read (Ok trace) = trace_checked trace (first_breach trace.events)
trace_read (Err refusal) = Err (Text refusal)

-- what a trace text gives
abbrev pub trace_of : List ℕ → Result Recording ReplayFault
trace_of text = trace_read (reading_of text)
