-- What the steps of a call on a pair say of the whole.
use Rattle.std.proofs.Common.{◌≡◌, ◌≢◌, ◌⊎◌, ◌++◌, ℕ, List, [], Option, Result, Ok, Err, OnOk, OnErr, IfErr, refl, sym, ap, ◌∙◌, subst, inl, inr}
use Rattle.rapid_text.specs.Recording.{Recording}
use Rattle.std.specs.Io.KnownBytes.{Appends}
use Rattle.client_scripts.specs.Loading.{IsTraceOf}
use Rattle.client_scripts.specs.Replay.{AppendsPart, IsFault, of_trace}
use Rattle.client_scripts.specs.declared.fault.ReadCause.{ReadCause}
use Rattle.client_scripts.specs.declared.fault.ReplayFault.{ReplayFault}
use Rattle.client_scripts.specs.declared.fault.ReplayFault.TheVariants.{Text, Rule, Script, Read, Write, OutOfMemory}
use Rattle.calls.specs.pair.Answers.{IsAnswered, IsListed, IsUnexplained, IsUnlisted, IsUnwitnessed, IsWitness, IsWritten}
use Rattle.explain_report.specs.declared.places.name.Name.{Name}
use Rattle.calls.specs.pair.Forms.{IsPrinted}
use Rattle.calls.specs.pair.Named.{IsNamedPair}
use Rattle.calls.specs.declared.pair.fault.PairFault.{PairFault}
use Rattle.calls.specs.declared.pair.form.Form.{Form}
use Rattle.calls.specs.declared.pair.fault.PairFault.TheVariants.{Replay, NoSuchPair, NotShown, NoDeadlock, TooManyHeld}

-- a fault that is not for want of memory is one of the bytes
fault_of : (bytes : List ℕ) (fault : ReplayFault) → fault ≢ OutOfMemory → (fault ≡ OutOfMemory) ⊎ IsFault (of_trace bytes) fault → IsFault (of_trace bytes) fault
fault_of bytes fault other (inl memory) = absurd (other memory)
fault_of bytes fault other (inr h) = h

module _ (Prints : Recording → List ℕ → Type 0) (Refuses : Recording → PairFault → Type 0) where
  -- a fault of reading, before anything was written
  pub answered-unread : (bytes : List ℕ) (known : Option (List ℕ)) (fault : ReplayFault) → (fault ≡ OutOfMemory) ⊎ IsFault (of_trace bytes) fault → IsAnswered Prints Refuses bytes known known (Err (Replay fault))
  answered-unread bytes known (Text refusal) h = (fault_of bytes (Text refusal) (λ e. cc e) h, refl)
  answered-unread bytes known (Rule refusal) h = (fault_of bytes (Rule refusal) (λ e. cc e) h, refl)
  answered-unread bytes known (Script refusal) h = (fault_of bytes (Script refusal) (λ e. cc e) h, refl)
  answered-unread bytes known (Read input why) h = (fault_of bytes (Read input why) (λ e. cc e) h, refl)
  answered-unread bytes known Write h = absurd (fault_of bytes Write (λ e. cc e) h)
  answered-unread bytes known OutOfMemory h = refl

  module _ (r : Recording) (bytes : List ℕ) (old new : Option (List ℕ)) (read : IsTraceOf bytes r) (only_memory : (fault : ReplayFault) → Refuses r (Replay fault) → fault ≡ OutOfMemory) where
    -- what was written of the trace that the bytes say
    pub answered-written : (result : Result Unit PairFault) → IsWritten Prints Refuses r old new result → IsAnswered Prints Refuses bytes old new result
    answered-written (Ok done) w = (r, read, w)
    answered-written (Err (Replay Write)) w = (r, read, w)
    answered-written (Err (Replay OutOfMemory)) w = w.1
    answered-written (Err (Replay (Text refusal))) w = absurd (cc (only_memory (Text refusal) w.0))
    answered-written (Err (Replay (Rule refusal))) w = absurd (cc (only_memory (Rule refusal) w.0))
    answered-written (Err (Replay (Script refusal))) w = absurd (cc (only_memory (Script refusal) w.0))
    answered-written (Err (Replay (Read input why))) w = absurd (cc (only_memory (Read input why) w.0))
    answered-written (Err NoSuchPair) w = (r, read, w)
    answered-written (Err (NotShown kind)) w = (r, read, w)
    answered-written (Err (NoDeadlock is_apart)) w = (r, read, w)
    answered-written (Err TooManyHeld) w = (r, read, w)

    -- no fault of reading is told once the trace was read
    pub written-unread : (result : Result Unit PairFault) (input : ℕ) (why : ReadCause) → IsWritten Prints Refuses r old new result → result ≢ Err (Replay (Read input why))
    written-unread result input why w e =
        let at = subst (λ (x : Result Unit PairFault). IsWritten Prints Refuses r old new x) e w in
        absurd (cc (only_memory (Read input why) at.0))

-- the faults of finding are no faults of reading
pub unexplained-memory : (r : Recording) (one other : Name) (fault : ReplayFault) → IsUnexplained r one other (Replay fault) → fault ≡ OutOfMemory
unexplained-memory r one other OutOfMemory h = refl
unexplained-memory r one other (Text refusal) h = absurd h
unexplained-memory r one other (Rule refusal) h = absurd h
unexplained-memory r one other (Script refusal) h = absurd h
unexplained-memory r one other (Read input why) h = absurd h
unexplained-memory r one other Write h = absurd h

pub unwitnessed-memory : (r : Recording) (one other : Name) (fault : ReplayFault) → IsUnwitnessed r one other (Replay fault) → fault ≡ OutOfMemory
unwitnessed-memory r one other OutOfMemory h = refl
unwitnessed-memory r one other (Text refusal) h = absurd h
unwitnessed-memory r one other (Rule refusal) h = absurd h
unwitnessed-memory r one other (Script refusal) h = absurd h
unwitnessed-memory r one other (Read input why) h = absurd h
unwitnessed-memory r one other Write h = absurd h

-- what was written of a right text
pub text-written : (Prints : Recording → List ℕ → Type 0) (Refuses : Recording → PairFault → Type 0) (r : Recording) (known new : Option (List ℕ)) (text shown : List ℕ) → shown ≡ text → Prints r text
    → (result : Result Unit PairFault) → OnOk result (Appends known new shown) → OnErr result (AppendsPart known new shown) → IfErr result (λ fault. fault ≡ Replay Write)
    → IsWritten Prints Refuses r known new result
text-written Prints Refuses r known new text shown same right (Ok done) ok err why = (shown, subst (Prints r) (sym same) right, ok)
text-written Prints Refuses r known new text shown same right (Err fault) ok err why =
    subst (λ (f : PairFault). IsWritten Prints Refuses r known new (Err f)) (sym why) (shown, subst (Prints r) (sym same) right, err)

-- why no schedule of the pair is printed, of the two as they were given
pub unlisted-unwitnessed : (r : Recording) (one other : Name) (a b : ℕ) → IsNamedPair r one other a b → (fault : PairFault) → IsUnlisted r a b fault → IsUnwitnessed r one other fault
unlisted-unwitnessed r one other a b pair (Replay OutOfMemory) h = tt
unlisted-unwitnessed r one other a b pair (Replay (Text refusal)) h = absurd h
unlisted-unwitnessed r one other a b pair (Replay (Rule refusal)) h = absurd h
unlisted-unwitnessed r one other a b pair (Replay (Script refusal)) h = absurd h
unlisted-unwitnessed r one other a b pair (Replay (Read input why)) h = absurd h
unlisted-unwitnessed r one other a b pair (Replay Write) h = absurd h
unlisted-unwitnessed r one other a b pair NoSuchPair h = absurd h
unlisted-unwitnessed r one other a b pair (NotShown kind) h = (a, b, pair, h)
unlisted-unwitnessed r one other a b pair (NoDeadlock is_apart) h = absurd h
unlisted-unwitnessed r one other a b pair TooManyHeld h = absurd h

-- the text of a schedule that was found
pub witness-text : (r : Recording) (one other : Name) (a b : ℕ) (form : Form) → IsNamedPair r one other a b → (events shown empty printed text : List ℕ) → IsListed r a b events → shown ≡ events → empty ≡ []
    → text ≡ empty ++ printed → IsPrinted r shown a b form printed → IsWitness r one other form text
witness-text r one other a b form pair events shown empty printed text listed same none e is =
    let whole : text ≡ printed = e ∙ ap (λ (before : List ℕ). before ++ printed) none in
    let told : IsPrinted r shown a b form text = subst (λ (t : List ℕ). IsPrinted r shown a b form t) (sym whole) is in
    inl
    record {
      a = a;
      b = b;
      pair = pair;
      how = listed.0;
      events = events;
      found = listed.1;
      printed = subst (λ (es : List ℕ). IsPrinted r es a b form text) same told;
    }
