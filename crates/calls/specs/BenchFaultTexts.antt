-- What is printed of a fault of one of the program's commands, without a line end.
use Rattle.std.specs.Prelude.{ℕ, List, ◌++◌, Option, Some, None, codes, decimal}
use Rattle.client_scripts.specs.FaultTexts.{fault_words, script_cause_words}
use Rattle.script_language.specs.declared.refusal.ScriptRefusal.{ScriptRefusal}
use Rattle.calls.specs.declared.fault.BenchFault.{BenchFault}
use Rattle.calls.specs.declared.fault.BenchFault.TheVariants.{Replay, Script, NoThread, TooManyScripts, NoSuchEvent, NoName}

-- `words` at a line of a script, which is one of several and counted from 1; running out of memory has no place
abbrev pub words_in_script : ℕ → ℕ → Option (List ℕ) → List ℕ
words_in_script place line None = codes "out of memory"
words_in_script place line (Some words) = codes "script " ++ decimal place ++ codes " line " ++ decimal line ++ codes ": " ++ words

-- a refused script among several: its number, its line, and what is wrong with the line
abbrev pub script_refusal_words : ℕ → ScriptRefusal → List ℕ
script_refusal_words place refusal = words_in_script place refusal.line (script_cause_words refusal.why)

abbrev pub bench_fault_words : BenchFault → List ℕ
bench_fault_words (Replay fault) = fault_words fault
bench_fault_words (Script place refusal) = script_refusal_words place refusal
bench_fault_words NoThread = codes "no thread"
bench_fault_words TooManyScripts = codes "too many scripts"
bench_fault_words NoSuchEvent = codes "no such event"
bench_fault_words NoName = codes "no name is free"
