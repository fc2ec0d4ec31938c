-- What the steps of `threads` say of the whole.
use Rattle.std.proofs.Common.{◌≡◌, ◌⊎◌, ℕ, suc, length, arith, List, Bool, true, IfErr, Option, Result, Ok, Err, refl, subst, sym, ap, ◌∙◌, inl, inr}
use Rattle.rapid_text.specs.Recording.{Recording}
use Rattle.client_scripts.specs.Replay.{IsFault, IsShort, of_trace}
use Rattle.client_scripts.specs.Loading.{IsTold, IsUnreadFrom}
use Rattle.client_scripts.specs.Traces.{trace_of}
use Rattle.client_scripts.specs.declared.fault.ReplayFault.{ReplayFault}
use Rattle.client_scripts.specs.declared.fault.ReplayFault.TheVariants.{Read, Write, OutOfMemory}
use Rattle.client_scripts.specs.declared.fault.ReadCause.TheVariants.{Device}
use Rattle.calls.specs.ScriptInputs.{IsFirstFault, IsScriptFault}
use Rattle.calls.specs.Threads.{IsRunFault, StopsRun}
use Rattle.calls.specs.declared.fault.BenchFault.{BenchFault}
use Rattle.calls.specs.declared.fault.BenchFault.TheVariants.{Replay}

module _ (rest : Option (List ℕ)) (rests : List (Option (List ℕ))) (workers : ℕ) (failed : Bool) where
  stopped : (bytes : List ℕ) (fault : ReplayFault) → IsTold rest bytes → (fault ≡ OutOfMemory) ⊎ IsFault (of_trace bytes) fault → StopsRun rest rests workers failed (Replay fault)
  stopped bytes fault told (inl memory) = inr (inr (inl (inl (ap Replay memory))))
  stopped bytes fault told (inr h) = inr (inr (inr (bytes, told, inl (fault, refl, h))))

  -- the trace was not read
  pub stopped-trace : (fault : ReplayFault) → IsUnreadFrom rest fault → StopsRun rest rests workers failed (Replay fault)
  stopped-trace fault unread = stopped unread.0 fault unread.1 unread.2

  pub stopped-scripts : (bytes : List ℕ) (trace : Recording) (fault : BenchFault) → IsShort bytes → IsTold rest bytes → trace_of bytes ≡ Ok trace → IsFirstFault rests fault → StopsRun rest rests workers failed fault
  stopped-scripts bytes trace fault short told is h = inr (inr (inr (bytes, told, inr ((short, trace, is), h))))

-- one answer has one fault
pub err_is : {A E : Type 0} (a b : E) (r : Result A E) → r ≡ Err a → r ≡ Err b → a ≡ b
err_is a b (Ok x) e f = absurd (cc e)
err_is a b (Err x) e f = cc (sym e ∙ f)

-- a script is never told as the trace
pub not_the_trace : (rests : List (Option (List ℕ))) (fault : BenchFault) → IsFirstFault rests fault → fault ≡ Replay (Read 1 Device) → ⊥
not_the_trace rests fault h e =
    let place = subst (λ f. IsScriptFault (suc (length h.before)) h.rest f) e h.at_fault in
    absurd (omega (arith, place))

-- why a run on a trace that was read stopped
abbrev pub StopsRead : List (Option (List ℕ)) → ℕ → Bool → BenchFault → Type 0
StopsRead rests workers failed fault = ((fault ≡ Replay Write) × (failed ≡ true)) ⊎ IsRunFault workers fault ⊎ IsFirstFault rests fault

module _ (rest : Option (List ℕ)) (rests : List (Option (List ℕ))) (workers : ℕ) (failed : Bool) (bytes : List ℕ) (trace : Recording) where
  stopped-read : (fault : BenchFault) → IsTold rest bytes → IsShort bytes → trace_of bytes ≡ Ok trace → StopsRead rests workers failed fault → StopsRun rest rests workers failed fault
  stopped-read fault told short is (inl write) = inr (inl write)
  stopped-read fault told short is (inr (inl run)) = inr (inr (inl run))
  stopped-read fault told short is (inr (inr first)) = stopped-scripts rest rests workers failed bytes trace fault short told is first

  pub stopped-all : {A : Type 0} (r : Result A BenchFault) → IsTold rest bytes → IsShort bytes → trace_of bytes ≡ Ok trace → IfErr r (StopsRead rests workers failed) → IfErr r (StopsRun rest rests workers failed)
  stopped-all (Ok a) told short is h = tt
  stopped-all (Err fault) told short is h = stopped-read fault told short is h
