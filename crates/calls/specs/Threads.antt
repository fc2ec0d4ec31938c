-- What `threads` writes and answers of a trace's bytes and of its readers of scripts. All notions here are this project's own.
use Rattle.std.specs.Prelude.{◌≡◌, ◌⊎◌, ◌<◌, ℕ, List, Bool, true, Option, Ok}
use Rattle.std.specs.Io.KnownBytes.{Appends}
use Rattle.rapid_text.specs.Recording.{Recording}
use Rattle.client_scripts.specs.Loading.{IsTold}
use Rattle.client_scripts.specs.Replay.{IsAccepted, IsFault, IsShort, of_trace}
use Rattle.script_language.specs.Scripts.{Asked}
use Rattle.client_scripts.specs.Traces.{trace_of}
use Rattle.client_scripts.specs.declared.fault.ReplayFault.{ReplayFault}
use Rattle.client_scripts.specs.declared.fault.ReplayFault.TheVariants.{Write, OutOfMemory}
use Rattle.calls.specs.ScriptInputs.{AreScripts, IsFirstFault}
use Rattle.calls.specs.Told.{AreTold}
use Rattle.calls.specs.declared.fault.BenchFault.{BenchFault}
use Rattle.calls.specs.declared.fault.BenchFault.TheVariants.{Replay, NoThread, TooManyScripts}

-- The text of the trace that the bytes say and of the scripts that the readers have, with `workers` workers.
pub record RunsTogether (bytes : List ℕ) (rests : List (Option (List ℕ))) (workers : ℕ) (text : List ℕ) : Type 0 where
  pub trace : Recording
  pub scripts : List (List Asked)
  pub short : IsShort bytes
  pub trace_is : trace_of bytes ≡ Ok trace
  pub scripts_are : AreScripts 1 rests scripts
  pub told : AreTold trace scripts workers text

-- the trace is at fault, or, if the trace is accepted, the first script that has a fault
abbrev pub StopsBehind : List ℕ → List (Option (List ℕ)) → BenchFault → Type 0
StopsBehind bytes rests fault =
    ((cause : ReplayFault) × (fault ≡ Replay cause) × IsFault (of_trace bytes) cause) ⊎ (IsAccepted (of_trace bytes) × IsFirstFault rests fault)

-- why scripts were not run, or not to their end: a lack of memory, or, if there are workers, of a thread
abbrev pub IsRunFault : ℕ → BenchFault → Type 0
IsRunFault workers fault = (fault ≡ Replay OutOfMemory) ⊎ ((fault ≡ NoThread) × (0 < workers))

-- a write has failed, and that is the fault
abbrev pub FailsToWrite : Bool → BenchFault → Type 0
FailsToWrite failed fault = (fault ≡ Replay Write) × (failed ≡ true)

-- why scripts that were read were not run to their end, or their answers not written
abbrev pub StopsRead : Bool → ℕ → BenchFault → Type 0
StopsRead failed workers fault = FailsToWrite failed fault ⊎ IsRunFault workers fault

-- the same, or why a script was not read
abbrev pub StopsScripts : Bool → ℕ → List (Option (List ℕ)) → BenchFault → Type 0
StopsScripts failed workers rests fault = FailsToWrite failed fault ⊎ IsRunFault workers fault ⊎ IsFirstFault rests fault

-- the answers to these calls on the trace, and the log, were written
abbrev pub WritesTold : Recording → List (List Asked) → ℕ → Option (List ℕ) → Option (List ℕ) → Type 0
WritesTold trace asked workers old new = (text : List ℕ) × AreTold trace asked workers text × Appends old new text

-- the same of the scripts that these readers have
abbrev pub WritesScripts : Recording → List (Option (List ℕ)) → ℕ → Option (List ℕ) → Option (List ℕ) → Type 0
WritesScripts trace rests workers old new = (asked : List (List Asked)) × AreScripts 1 rests asked × WritesTold trace asked workers old new

-- the same of the trace that its reader has
abbrev pub WritesRun : Option (List ℕ) → List (Option (List ℕ)) → ℕ → Option (List ℕ) → Option (List ℕ) → Type 0
WritesRun rest rests workers old new =
    (bytes : List ℕ) × IsTold rest bytes × (text : List ℕ) × RunsTogether bytes rests workers text × Appends old new text

-- why a run stopped; `failed` is whether a write has failed
abbrev pub StopsRun : Option (List ℕ) → List (Option (List ℕ)) → ℕ → Bool → BenchFault → Type 0
StopsRun rest rests workers failed fault =
    (fault ≡ TooManyScripts)
    ⊎ FailsToWrite failed fault
    ⊎ IsRunFault workers fault
    ⊎ ((bytes : List ℕ) × IsTold rest bytes × StopsBehind bytes rests fault)
