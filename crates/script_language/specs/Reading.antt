-- The refusal for a line with a fault. No public clause cites this module.
use Rattle.std.specs.Prelude.{ℕ}
use Rattle.script_language.specs.Scripts.{no_memory}
use Rattle.script_language.specs.declared.refusal.ScriptCause.{ScriptCause}
use Rattle.script_language.specs.declared.refusal.ScriptCause.TheVariants.{OutOfMemory}
use Rattle.script_language.specs.declared.refusal.ScriptRefusal.{ScriptRefusal}

-- the refusal of a line for this cause; if memory ran out, it has no line
abbrev pub refusal_for : ℕ → ScriptCause → ScriptRefusal
refusal_for line OutOfMemory = no_memory
refusal_for line why = record { line = line; why = why }
