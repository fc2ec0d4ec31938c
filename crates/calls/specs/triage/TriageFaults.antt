-- What is printed of a fault of the call, without a line end.
use Rattle.std.specs.Prelude.{ℕ, List, codes}
use Rattle.client_scripts.specs.FaultTexts.{fault_words}
use Rattle.calls.specs.declared.triage.fault.TriageFault.{TriageFault}
use Rattle.calls.specs.declared.triage.fault.TriageFault.TheVariants.{Replay, TooMany}

abbrev pub triage_fault_words : TriageFault → List ℕ
triage_fault_words (Replay fault) = fault_words fault
triage_fault_words TooMany = codes "too many pairs of places"
