-- What reading a trace returns for its reader's bytes.
use Rattle.std.specs.Prelude.{◌≡◌, ◌⊎◌, ℕ, List, Option, Ok, IfSome}
use Rattle.rapid_text.specs.Recording.{Recording}
use Rattle.client_scripts.specs.Replay.{IsFault, IsShort, of_trace}
use Rattle.client_scripts.specs.Traces.{trace_of}
use Rattle.client_scripts.specs.declared.fault.ReplayFault.{ReplayFault}
use Rattle.client_scripts.specs.declared.fault.ReplayFault.TheVariants.{OutOfMemory}

-- if the reader shows its bytes, these are the bytes
abbrev pub IsTold : Option (List ℕ) → List ℕ → Type 0
IsTold rest bytes = IfSome rest (λ told. bytes ≡ told)

-- the bytes give this trace
abbrev pub IsTraceOf : List ℕ → Recording → Type 0
IsTraceOf bytes trace = IsShort bytes × (trace_of bytes ≡ Ok trace)

-- a trace was read
abbrev pub IsReadFrom : Option (List ℕ) → Recording → Type 0
IsReadFrom rest trace = (bytes : List ℕ) × IsTold rest bytes × IsTraceOf bytes trace

-- or the bytes give this fault, or memory ran out
abbrev pub IsUnreadFrom : Option (List ℕ) → ReplayFault → Type 0
IsUnreadFrom rest fault = (bytes : List ℕ) × IsTold rest bytes × ((fault ≡ OutOfMemory) ⊎ IsFault (of_trace bytes) fault)
