-- What the steps of the call say of the whole.
use Rattle.std.proofs.Common.{◌≡◌, ◌≢◌, ◌⊎◌, ℕ, ◌<◌, ◌+◌, List, [], length, replicate, Vec, Option, Some, None, Result, Ok, Err, IfSome, refl, arith, inl, inr}
use Rattle.std.specs.Option.{option_map}
use Rattle.std.specs.declared.alloc.Global.{Global}
use Rattle.std.proofs.lemmas.List.{length-replicate}
use Rattle.rapid_text.specs.Recording.{Recording}
use Rattle.client_scripts.specs.Replay.{IsAccepted, IsFault, of_trace}
use Rattle.client_scripts.specs.Steps.{IsInput}
use Rattle.client_scripts.specs.declared.fault.ReplayFault.{ReplayFault}
use Rattle.client_scripts.specs.declared.fault.ReplayFault.TheVariants.{Text, Rule, Script, Read, Write, OutOfMemory}
use Rattle.client_scripts.specs.declared.fault.ReadCause.TheVariants.{Device, TooLong}
use Rattle.client_scripts.specs.declared.fault.TheConstants.{LIMIT}
use Rattle.client_scripts.specs.Loading.{IsTraceOf}
use Rattle.calls.specs.triage.Answers.{given_text, IsKnownFault, IsKnownRead, IsKnownUnread, IsTriaged, IsWritten}
use Rattle.calls.specs.declared.triage.fault.TriageFault.{TriageFault}
use Rattle.calls.specs.declared.triage.fault.TriageFault.TheVariants.{Replay, TooMany}
use Rattle.calls.specs.declared.triage.asked.Asked.{Asked}

-- bytes that a reader tells, where it tells them
pub told_bytes : (rest : Option (List ℕ)) → (bytes : List ℕ) × IfSome rest (λ told. bytes ≡ told)
told_bytes None = ([], tt)
told_bytes (Some bytes) = (bytes, refl)

-- a text that is longer than a limit
longer : (limit : ℕ) → (bytes : List ℕ) × (limit < length bytes)
longer limit =
    let none : ℕ = 0 in
    let bytes : List ℕ = replicate (limit + 1) none in
    (bytes, omega (arith, length-replicate (limit + 1) none))

too_long : (limit : ℕ) (rest : Option (List ℕ)) → IfSome rest (λ told. limit < length told) → (bytes : List ℕ) × IfSome rest (λ told. bytes ≡ told) × (limit < length bytes)
too_long limit None long = let other = longer limit in (other.0, tt, other.1)
too_long limit (Some bytes) long = (bytes, refl, long)

-- the text of known races was not read
pub known_fault : (bytes : List ℕ) (rest : Option (List ℕ)) (fault : ReplayFault) → IsAccepted (of_trace bytes) → IsInput 2 rest (Err fault)
    → (listed : List ℕ) × IfSome rest (λ told. listed ≡ told) × ((fault ≡ OutOfMemory) ⊎ IsKnownFault bytes listed fault)
known_fault bytes rest (Read place Device) accepted h = let told = told_bytes rest in (told.0, told.1, inr (h, accepted, tt))
known_fault bytes rest (Read place TooLong) accepted h = let told = too_long LIMIT rest h.1 in (told.0, told.1, inr (h.0, accepted, told.2))
known_fault bytes rest OutOfMemory accepted h = let told = told_bytes rest in (told.0, told.1, inl refl)
known_fault bytes rest (Text refusal) accepted h = absurd h
known_fault bytes rest (Rule refusal) accepted h = absurd h
known_fault bytes rest (Script refusal) accepted h = absurd h
known_fault bytes rest Write accepted h = absurd h

module _ {X : Type 0} (bytes listed : List ℕ) (given : Option X) (asked : Asked) where
  -- a fault of reading, before anything was written
  pub unread-triaged : (known : Option (List ℕ)) (fault : ReplayFault) → fault ≢ Write → (fault ≡ OutOfMemory) ⊎ (IsFault (of_trace bytes) fault ⊎ IsKnownFault bytes listed fault)
      → IsTriaged bytes listed given asked known known (Err (Replay fault))
  unread-triaged known OutOfMemory other h = refl
  unread-triaged known Write other h = absurd (other refl)
  unread-triaged known (Text refusal) other (inr h) = (h, refl)
  unread-triaged known (Rule refusal) other (inr h) = (h, refl)
  unread-triaged known (Script refusal) other (inr h) = (h, refl)
  unread-triaged known (Read input why) other (inr h) = (h, refl)
  unread-triaged known (Text refusal) other (inl e) = absurd (cc e)
  unread-triaged known (Rule refusal) other (inl e) = absurd (cc e)
  unread-triaged known (Script refusal) other (inl e) = absurd (cc e)
  unread-triaged known (Read input why) other (inl e) = absurd (cc e)

-- what was written of the trace that the bytes say
module _ {X : Type 0} (bytes listed : List ℕ) (given : Option X) (asked : Asked) (r : Recording) (old new : Option (List ℕ)) (read : IsTraceOf bytes r) where
  pub written-triaged : (result : Result ℕ TriageFault) → IsWritten r (given_text given listed) asked old new result → IsTriaged bytes listed given asked old new result
  written-triaged (Ok races) (shown, listing, appended) = (shown, (r, read, listing), appended)
  written-triaged (Err (Replay Write)) (races, shown, listing, appended) = (races, shown, (r, read, listing), appended)
  written-triaged (Err (Replay OutOfMemory)) h = h.1
  written-triaged (Err (Replay (Text refusal))) h = absurd h.0
  written-triaged (Err (Replay (Rule refusal))) h = absurd h.0
  written-triaged (Err (Replay (Script refusal))) h = absurd h.0
  written-triaged (Err (Replay (Read input why))) h = absurd h.0
  written-triaged (Err TooMany) h = (r, read, h.0, h.1)

-- the text of known races is what the second reader tells, where there is one
pub listed_text : {X : Type 0} (rest : X → Option (List ℕ)) (known : Option X) (text : Option (Vec ℕ Global)) → IsKnownRead rest known text
    → (listed : List ℕ) × IfSome known (λ k. IfSome (rest k) (λ told. listed ≡ told)) × (option_map (λ v. v.items) text ≡ given_text known listed)
listed_text rest None None read = ([], tt, refl)
listed_text rest (Some source) (Some text) read = (text.items, read, refl)
listed_text rest None (Some text) read = absurd read
listed_text rest (Some source) None read = absurd read

-- the bytes of a second reader, where there is one
pub listed_bytes : {X : Type 0} (rest : X → Option (List ℕ)) (known : Option X) → (listed : List ℕ) × IfSome known (λ k. IfSome (rest k) (λ told. listed ≡ told))
listed_bytes rest None = ([], tt)
listed_bytes rest (Some k) = told_bytes (rest k)

pub of_trace_fault : {A B C : Type 0} → A ⊎ B → A ⊎ (B ⊎ C)
of_trace_fault (inl a) = inl a
of_trace_fault (inr b) = inr (inl b)

of_known_fault : {A B C : Type 0} → A ⊎ C → A ⊎ (B ⊎ C)
of_known_fault (inl a) = inl a
of_known_fault (inr c) = inr (inr c)

not_write : (rest : Option (List ℕ)) (fault : ReplayFault) → IsInput 2 rest (Err fault) → fault ≢ Write
not_write rest Write h e = absurd h
not_write rest (Text refusal) h e = absurd h
not_write rest (Rule refusal) h e = absurd h
not_write rest (Script refusal) h e = absurd h
not_write rest (Read input why) h e = absurd (cc e)
not_write rest OutOfMemory h e = absurd (cc e)

-- the text of known races is at fault
pub known-triaged : {X : Type 0} (rest : X → Option (List ℕ)) (known : Option X) (fault : TriageFault) (bytes : List ℕ) (asked : Asked) (old : Option (List ℕ)) → IsAccepted (of_trace bytes)
    → IfSome known (λ k. IsKnownUnread (rest k) fault) → known ≢ None → (listed : List ℕ) × IfSome known (λ k. IfSome (rest k) (λ told. listed ≡ told)) × IsTriaged bytes listed known asked old old (Err fault)
known-triaged rest None fault bytes asked old accepted unread given = absurd (given refl)
known-triaged rest (Some k) (Replay fault) bytes asked old accepted unread given =
    let found = known_fault bytes (rest k) fault accepted unread in
    (found.0, found.1, unread-triaged bytes found.0 (Some k) asked old fault (not_write (rest k) fault unread) (of_known_fault found.2))
known-triaged rest (Some k) TooMany bytes asked old accepted unread given = absurd unread
