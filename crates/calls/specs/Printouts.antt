-- What a call answers that reads one trace and writes one text of it, and what its writer has taken. `Prints` says which texts are right of
-- a trace, and `Refuses` which faults of the call's own. All notions here are this project's own.
use Rattle.std.specs.Prelude.{◌≡◌, ◌≢◌, ℕ, Bool, true, List, Option, Result, Ok, Err, ⊤}
use Rattle.std.specs.Io.KnownBytes.{Appends}
use Rattle.rapid_text.specs.Recording.{Recording}
use Rattle.client_scripts.specs.Loading.{IsTold, IsTraceOf}
use Rattle.client_scripts.specs.Replay.{AppendsPart, IsFault, of_trace}
use Rattle.client_scripts.specs.declared.fault.ReadCause.{ReadCause}
use Rattle.client_scripts.specs.declared.fault.ReadCause.TheVariants.{Device}
use Rattle.client_scripts.specs.declared.fault.ReplayFault.TheVariants.{Read, Write, OutOfMemory}
use Rattle.calls.specs.declared.fault.BenchFault.{BenchFault}
use Rattle.calls.specs.declared.fault.BenchFault.TheVariants.{Replay}

-- why no text is made: out of memory, or a fault of the call itself
abbrev pub IsUnmade : (BenchFault → Type 0) → BenchFault → Type 0
IsUnmade Refuses (Replay OutOfMemory) = ⊤
IsUnmade Refuses (Replay fault) = ⊥
IsUnmade Refuses fault = Refuses fault

-- What was written of a trace: a right text, whole; or the writer failed, and it is a beginning of one; or no text was made, and it is
-- nothing.
abbrev pub IsWritten : (List ℕ → Type 0) → (BenchFault → Type 0) → Option (List ℕ) → Option (List ℕ) → Result Unit BenchFault → Type 0
IsWritten Prints Refuses old new (Ok done) = (text : List ℕ) × Prints text × Appends old new text
IsWritten Prints Refuses old new (Err (Replay Write)) = (text : List ℕ) × Prints text × AppendsPart old new text
IsWritten Prints Refuses old new (Err fault) = IsUnmade Refuses fault × (new ≡ old)

-- The same of the trace that the bytes say; at a fault of theirs nothing was written.
abbrev pub IsAnswered : (Recording → List ℕ → Type 0) → (Recording → BenchFault → Type 0) → List ℕ → Option (List ℕ) → Option (List ℕ) → Result Unit BenchFault → Type 0
IsAnswered Prints Refuses bytes old new (Err (Replay Write)) =
    (r : Recording) × IsTraceOf bytes r × IsWritten (Prints r) (Refuses r) old new (Err (Replay Write))
IsAnswered Prints Refuses bytes old new (Err (Replay OutOfMemory)) = new ≡ old
IsAnswered Prints Refuses bytes old new (Err (Replay fault)) = IsFault (of_trace bytes) fault × (new ≡ old)
IsAnswered Prints Refuses bytes old new result = (r : Recording) × IsTraceOf bytes r × IsWritten (Prints r) (Refuses r) old new result

-- What the call answers and has written: `rest` is what the reader shows of its bytes, `unread` whether it has failed, `old` and `new` are what the
-- writer had taken before and has now, and `unwritten` says whether it has failed.
pub record Answers (Prints : Recording → List ℕ → Type 0) (Refuses : Recording → BenchFault → Type 0) (rest : Option (List ℕ)) (unread : Bool)
    (old new : Option (List ℕ)) (unwritten : Bool) (result : Result Unit BenchFault) : Type 0 where
  -- there is a text, the one that the reader shows if it shows one, and all this follows from that text
  pub bytes : List ℕ
  pub told : IsTold rest bytes
  pub answered : IsAnswered Prints Refuses bytes old new result
  -- there is one input, and no second one is named
  pub one_input : (why : ReadCause) → result ≢ Err (Replay (Read 2 why))
  -- the device is at fault exactly if a read failed, and the writer exactly if a write failed
  pub device : result ≡ Err (Replay (Read 1 Device)) → unread ≡ true
  pub read_failed : unread ≡ true → result ≡ Err (Replay (Read 1 Device))
  pub write : result ≡ Err (Replay Write) → unwritten ≡ true
  pub write_failed : unwritten ≡ true → result ≡ Err (Replay Write)
