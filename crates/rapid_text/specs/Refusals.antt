-- The refusals of a trace text.
use Rattle.rapid_text.specs.declared.refusal.TextCause.TheVariants.{OutOfMemory}
use Rattle.rapid_text.specs.declared.refusal.TextRefusal.{TextRefusal}

-- memory ran out; no line is at fault
abbrev pub no_memory : TextRefusal
no_memory = record { line = 0; why = OutOfMemory }
