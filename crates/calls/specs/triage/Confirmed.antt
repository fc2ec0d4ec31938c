-- Why a file of followed races is not taken, and what is printed of that. All notions here are this project's own.
use Rattle.std.specs.Prelude.{ℕ, List, ◌++◌, Option, Err, IfSome, codes, decimal, ⊤}
use Rattle.client_scripts.specs.FaultTexts.{fault_words}
use Rattle.client_scripts.specs.Steps.{IsInput}
use Rattle.client_scripts.specs.declared.fault.ReplayFault.TheVariants.{OutOfMemory}
use Rattle.followed_races.specs.Lines.{IsRefusedAt}
use Rattle.calls.specs.declared.triage.confirming.ConfirmedFault.{ConfirmedFault}
use Rattle.calls.specs.declared.triage.confirming.ConfirmedFault.TheVariants.{Replay, Line}

-- why a text is not taken: a line of it is refused, or there is no memory
abbrev pub IsTextFault : List ℕ → ConfirmedFault → Type 0
IsTextFault text (Replay OutOfMemory) = ⊤
IsTextFault text (Replay fault) = ⊥
IsTextFault text (Line number) = IsRefusedAt text number

-- why a file is not taken: it is not read, or a line of it is refused
abbrev pub IsConfirmedFault : Option (List ℕ) → ConfirmedFault → Type 0
IsConfirmedFault rest (Replay fault) = IsInput 3 rest (Err fault)
IsConfirmedFault rest (Line number) = IfSome rest (λ told. IsRefusedAt told number)

-- what is printed of it, without a line end
abbrev pub confirmed_fault_words : ConfirmedFault → List ℕ
confirmed_fault_words (Replay fault) = fault_words fault
confirmed_fault_words (Line number) = codes "confirmed file line " ++ decimal number
