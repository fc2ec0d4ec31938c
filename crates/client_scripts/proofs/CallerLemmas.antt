-- What the crates above need to know of inputs that were not read and of traces that were not loaded.
use Rattle.std.proofs.Common.{◌≡◌, ◌⊎◌, ℕ, List, Option, Err, refl, sym, subst, inl, inr}
use Rattle.client_scripts.specs.Loading.{IsTold}
use Rattle.client_scripts.specs.Replay.{Texts, IsShort, IsFault}
use Rattle.client_scripts.specs.Steps.{IsInput}
use Rattle.client_scripts.specs.Traces.{trace_of}
use Rattle.client_scripts.specs.declared.fault.ReadCause.TheVariants.{Device, TooLong}
use Rattle.client_scripts.specs.declared.fault.ReplayFault.{ReplayFault}
use Rattle.client_scripts.specs.declared.fault.ReplayFault.TheVariants.{Text, Rule, Script, Read, Write, OutOfMemory}
use Rattle.client_scripts.proofs.ReplayLemmas.{IsUnreadAt, unread-at, IsOfTrace, of_reading}

unread-first-fault : (t : Texts) (fault : ReplayFault) → IsUnreadAt 1 t.first fault → (fault ≡ OutOfMemory) ⊎ IsFault t fault
unread-first-fault t (Read place Device) h = inr (inl (h, tt))
unread-first-fault t (Read place TooLong) h = inr (inl (h.0, h.1))
unread-first-fault t OutOfMemory h = inl refl
unread-first-fault t (Text refusal) h = absurd h
unread-first-fault t (Rule refusal) h = absurd h
unread-first-fault t (Script refusal) h = absurd h
unread-first-fault t Write h = absurd h

-- the first input was not read: there are bytes, those that the reader tells where it tells them, with this fault
pub input-fault : (texts : List ℕ → Texts) → ((bytes : List ℕ) → (texts bytes).first ≡ bytes) → (rest : Option (List ℕ)) (fault : ReplayFault) → IsInput 1 rest (Err fault) → (bytes : List ℕ) × IsTold rest bytes × ((fault ≡ OutOfMemory) ⊎ IsFault (texts bytes) fault)
input-fault texts first rest fault h =
    let input = unread-at 1 rest fault h in (
      input.0,
      input.1,
      unread-first-fault (texts input.0) fault (subst (λ b. IsUnreadAt 1 b fault) (sym (first input.0)) input.2),
    )

of_trace-fault : (t : Texts) (fault : ReplayFault) → IsShort t.first → IsOfTrace fault → trace_of t.trace ≡ Err fault → IsFault t fault
of_trace-fault t (Text refusal) short is e = (short, e)
of_trace-fault t (Rule refusal) short is e = (short, e)
of_trace-fault t (Script refusal) short is e = absurd is
of_trace-fault t (Read input why) short is e = absurd is
of_trace-fault t Write short is e = absurd is
of_trace-fault t OutOfMemory short is e = absurd is

-- the trace was not loaded
pub load-fault : (t : Texts) (fault : ReplayFault) → IsShort t.first → (fault ≡ OutOfMemory) ⊎ (trace_of t.trace ≡ Err fault) → (fault ≡ OutOfMemory) ⊎ IsFault t fault
load-fault t fault short (inl memory) = inl memory
load-fault t fault short (inr refused) = inr (of_trace-fault t fault short (of_reading _ fault refused) refused)
