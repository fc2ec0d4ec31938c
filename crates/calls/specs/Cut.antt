-- What `cut` answers of the bytes that it reads, and what its writer has taken. All notions here are this project's own.
use Rattle.std.specs.Prelude.{ℕ, ◌≤◌, Bool, List, length, Option, Result}
use Rattle.rapid_text.specs.Recording.{Recording}
use Rattle.client_scripts.specs.declared.fault.ReplayFault.TheVariants.{OutOfMemory}
use Rattle.window.specs.Cuts.{HasNoNewName, IsCut}
use Rattle.window.specs.declared.fault.CutFault.{CutFault}
use Rattle.window.specs.declared.fault.CutFault.TheVariants.{NoSuchEvent as NoEvent, NoName as NoNewName, OutOfMemory as NoMemory}
use Rattle.calls.specs.Printouts.{Answers}
use Rattle.calls.specs.declared.fault.BenchFault.{BenchFault}
use Rattle.calls.specs.declared.fault.BenchFault.TheVariants.{Replay, NoSuchEvent, NoName}

-- a fault of cutting, as the call has it
abbrev pub told_of : CutFault → BenchFault
told_of NoEvent = NoSuchEvent
told_of NoNewName = NoName
told_of NoMemory = Replay OutOfMemory

-- why no window of this trace is cut
abbrev pub IsUncut : Recording → ℕ → BenchFault → Type 0
IsUncut r from NoSuchEvent = length r.events ≤ from
IsUncut r from NoName = HasNoNewName r
IsUncut r from fault = ⊥

-- the window at event `from`, of at most `most` events, is written of the trace that the reader's bytes say
abbrev pub IsCutOut : ℕ → ℕ → Option (List ℕ) → Bool → Option (List ℕ) → Option (List ℕ) → Bool → Result Unit BenchFault → Type 0
IsCutOut from most rest unread old new unwritten result =
    Answers (λ r text. IsCut r from most text) (λ r fault. IsUncut r from fault) rest unread old new unwritten result
