-- What is reported of a log's file that is not read.
use Rattle.std.proofs.Common.{◌≡◌, ◌∙◌, ap, sym, ℕ, List, Option, Result, Ok, Err, subst}
use Rattle.std.specs.Option.{IfSome}
use Rattle.client_scripts.specs.Replay.{IsUnreadable}
use Rattle.client_scripts.specs.Steps.{IsInput}
use Rattle.client_scripts.specs.declared.fault.ReadCause.TheVariants.{TooLong}
use Rattle.client_scripts.specs.declared.fault.ReplayFault.{ReplayFault}
use Rattle.client_scripts.specs.declared.fault.ReplayFault.TheVariants.{Read, OutOfMemory}
use Rattle.kept_session.specs.declared.fault.SessionFault.{SessionFault}
use Rattle.kept_session.specs.declared.fault.SessionFault.TheVariants.{Replay, LogLine, OtherTrace}

-- the fault of reading in an answer
abbrev fault_in : Result Unit SessionFault → ReplayFault
fault_in (Err (Replay fault)) = fault
fault_in (Err (LogLine line)) = OutOfMemory
fault_in (Err OtherTrace) = OutOfMemory
fault_in (Ok done) = OutOfMemory

-- an input that is reported as too long is too long
input_long : (rest : Option (List ℕ)) (fault : ReplayFault) → IsInput 2 rest (Err fault) → fault ≡ Read 2 TooLong → IfSome rest (λ bytes. IsUnreadable bytes TooLong)
input_long rest fault told is = (subst (λ (f : ReplayFault). IsInput 2 rest (Err f)) is told).1

-- the same of an answer that has the fault of reading
pub answered_long : (rest : Option (List ℕ)) (fault : ReplayFault) (answer : Result Unit SessionFault) → IsInput 2 rest (Err fault) → answer ≡ Err (Replay fault)
    → answer ≡ Err (Replay (Read 2 TooLong)) → IfSome rest (λ bytes. IsUnreadable bytes TooLong)
answered_long rest fault answer told same is = input_long rest fault told (ap fault_in (sym same ∙ is))
