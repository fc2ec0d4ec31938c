-- What the steps of a replay say of the whole.
use Rattle.std.proofs.Common.{◌≡◌, ◌≢◌, ◌⊎◌, ℕ, suc, ◌<◌, ◌≤◌, List, [], length, replicate, Option, Some, None, Result, Ok, Err, Vec, Global, refl, sym, ap, ◌∙◌, subst, arith, inl, inr, ⊎_elim}
use Rattle.std.specs.Prelude.{IfSome, ⊤}
use Rattle.std.proofs.lemmas.List.{length-replicate}
use Rattle.rapid_text.specs.Recording.{Recording}
use Rattle.rapid_text.specs.declared.refusal.TextRefusal.{TextRefusal}
use Rattle.trace_rules.specs.Rules.{first_breach}
use Rattle.trace_rules.specs.declared.refusal.RuleRefusal.{RuleRefusal}
use Rattle.client_scripts.specs.Loading.{IsTold}
use Rattle.client_scripts.specs.Replay.{Texts, Said, IsShort, IsAccepted, IsFault, IsReplay, of_trace, of_two}
use Rattle.script_language.specs.Scripts.{Asked, IsScript, no_memory}
use Rattle.client_scripts.specs.Steps.{IsInput, IsRun, IsScriptRun, script_fault}
use Rattle.client_scripts.specs.Traces.{trace_checked, trace_read, trace_of}
use Rattle.client_scripts.specs.declared.fault.ReadCause.{ReadCause}
use Rattle.client_scripts.specs.declared.fault.ReadCause.TheVariants.{Device, TooLong}
use Rattle.client_scripts.specs.declared.fault.ReplayFault.{ReplayFault}
use Rattle.client_scripts.specs.declared.fault.ReplayFault.TheVariants.{Text, Rule, Script, Read, Write, OutOfMemory}
use Rattle.script_language.specs.declared.refusal.ScriptCause.{ScriptCause}
use Rattle.script_language.specs.declared.refusal.ScriptCause.TheVariants.{BadWord, BadNumber, BadClient, BadName, LineTooLong, OutOfMemory as NoScriptMemory}
use Rattle.script_language.specs.declared.refusal.ScriptRefusal.{ScriptRefusal}
use Rattle.client_scripts.specs.declared.fault.Tally.{Tally}
use Rattle.client_scripts.specs.declared.fault.TheConstants.{LIMIT}

pub told : (rest : Option (List ℕ)) → (bytes : List ℕ) × IsTold rest bytes
told None = ([], tt)
told (Some xs) = (xs, refl)

told-long : (limit : ℕ) (rest : Option (List ℕ)) → IfSome rest (λ xs. limit < length xs) → (bytes : List ℕ) × IsTold rest bytes × (limit < length bytes)
told-long limit None long = (replicate (suc limit) 0, tt, omega (arith, length-replicate {A = ℕ} (suc limit) 0))
told-long limit (Some xs) long = (xs, refl, long)

-- an input that was not read: which bytes it had, and why
abbrev pub IsUnreadAt : ℕ → List ℕ → ReplayFault → Type 0
IsUnreadAt input bytes (Read place Device) = place ≡ input
IsUnreadAt input bytes (Read place TooLong) = (place ≡ input) × (LIMIT < length bytes)
IsUnreadAt input bytes OutOfMemory = ⊤
IsUnreadAt input bytes fault = ⊥

pub unread-at : (input : ℕ) (rest : Option (List ℕ)) (fault : ReplayFault) → IsInput input rest (Err fault) → (bytes : List ℕ) × IsTold rest bytes × IsUnreadAt input bytes fault
unread-at input rest (Read place Device) h = ((told rest).0, (told rest).1, h)
unread-at input rest (Read place TooLong) h =
    let long = told-long LIMIT rest h.1 in (long.0, long.1, (h.0, long.2))
unread-at input rest OutOfMemory h = ((told rest).0, (told rest).1, tt)
unread-at input rest (Text refusal) h = absurd h
unread-at input rest (Rule refusal) h = absurd h
unread-at input rest (Script refusal) h = absurd h
unread-at input rest Write h = absurd h

-- a fault of the trace is one of its text or of its rules
abbrev pub IsOfTrace : ReplayFault → Type 0
IsOfTrace (Text refusal) = ⊤
IsOfTrace (Rule refusal) = ⊤
IsOfTrace fault = ⊥

of_breach : (trace : Recording) (breach : Option RuleRefusal) (fault : ReplayFault) → trace_checked trace breach ≡ Err fault → IsOfTrace fault
of_breach trace None fault e = cc
of_breach trace (Some refusal) fault e =
    let same : Rule refusal ≡ fault = cc in
    subst IsOfTrace same tt

pub of_reading : (reading : Result Recording TextRefusal) (fault : ReplayFault) → trace_read reading ≡ Err fault → IsOfTrace fault
of_reading (Ok trace) fault e = of_breach trace (first_breach trace.events) fault e
of_reading (Err refusal) fault e =
    let same : Text refusal ≡ fault = cc in
    subst IsOfTrace same tt

module _ (t : Texts) (known : Option (List ℕ)) where
  -- the first input was not read
  pub unread-first : (fault : ReplayFault) → IsUnreadAt 1 t.first fault → IsReplay t known known (Err fault)
  unread-first (Read place Device) h = (inl (h, tt), refl)
  unread-first (Read place TooLong) h = (inl (h.0, h.1), refl)
  unread-first OutOfMemory h = inl refl
  unread-first (Text refusal) h = absurd h
  unread-first (Rule refusal) h = absurd h
  unread-first (Script refusal) h = absurd h
  unread-first Write h = absurd h

  -- the second one was not, behind a trace that is accepted
  pub unread-second : IsAccepted t → (fault : ReplayFault) → IsUnreadAt 2 t.second fault → IsReplay t known known (Err fault)
  unread-second accepted (Read place Device) h = (inr (h, accepted, tt), refl)
  unread-second accepted (Read place TooLong) h = (inr (h.0, accepted, h.1), refl)
  unread-second accepted OutOfMemory h = inl refl
  unread-second accepted (Text refusal) h = absurd h
  unread-second accepted (Rule refusal) h = absurd h
  unread-second accepted (Script refusal) h = absurd h
  unread-second accepted Write h = absurd h

  refused-trace : IsShort t.first → (fault : ReplayFault) → IsOfTrace fault → trace_of t.trace ≡ Err fault → IsReplay t known known (Err fault)
  refused-trace short (Text refusal) is e = ((short, e), refl)
  refused-trace short (Rule refusal) is e = ((short, e), refl)
  refused-trace short (Script refusal) is e = absurd is
  refused-trace short (Read input why) is e = absurd is
  refused-trace short Write is e = absurd is
  refused-trace short OutOfMemory is e = absurd is

  -- the trace is refused
  pub unloaded : (fault : ReplayFault) → IsShort t.first → (fault ≡ OutOfMemory) ⊎ (trace_of t.trace ≡ Err fault) → IsReplay t known known (Err fault)
  unloaded fault short (inl memory) = subst (λ f. IsReplay t known known (Err f)) (sym memory) (inl refl)
  unloaded fault short (inr refused) = refused-trace short fault (of_reading _ fault refused) refused

-- the trace of two inputs was not read
module _ (first second : List ℕ) (known : Option (List ℕ)) where
  of_first : (fault : ReplayFault) → ((why : ReadCause) → fault ≢ Read 2 why) → ((refusal : ScriptRefusal) → fault ≢ Script refusal) → IsFault (of_trace first) fault → IsReplay (of_two first second) known known (Err fault)
  of_first (Text refusal) input script h = (h, refl)
  of_first (Rule refusal) input script h = (h, refl)
  of_first (Read place why) input script (inl h) = (inl h, refl)
  of_first (Read place why) input script (inr h) = absurd (input why (ap (λ n. Read n why) h.0))
  of_first (Script refusal) input script h = absurd (script refusal refl)
  of_first Write input script h = absurd h
  of_first OutOfMemory input script h = absurd h

  pub unread-trace : (fault : ReplayFault) → ((why : ReadCause) → fault ≢ Read 2 why) → ((refusal : ScriptRefusal) → fault ≢ Script refusal) → (fault ≡ OutOfMemory) ⊎ IsFault (of_trace first) fault → IsReplay (of_two first second) known known (Err fault)
  unread-trace fault input script (inl memory) = subst (λ f. IsReplay (of_two first second) known known (Err f)) (sym memory) (inl refl)
  unread-trace fault input script (inr h) = of_first fault input script h

-- the calls of a script that was read
pub script-run : (trace : Recording) (text : List ℕ) (asked : List Asked) (old new : Option (List ℕ)) (r : Result Tally ReplayFault) → IsScript text (Ok asked) → IsRun trace asked old new r → IsScriptRun trace text old new r
script-run trace text asked old new (Ok tally) is h = (asked, is, h)
script-run trace text asked old new (Err Write) is h = (asked, is, h)
script-run trace text asked old new (Err OutOfMemory) is h = inr (asked, is, h)
script-run trace text asked old new (Err (Text refusal)) is h = absurd h
script-run trace text asked old new (Err (Rule refusal)) is h = absurd h
script-run trace text asked old new (Err (Script refusal)) is h = absurd h
script-run trace text asked old new (Err (Read input why)) is h = absurd h

refused-by : (trace : Recording) (text : List ℕ) (known : Option (List ℕ)) (refusal : ScriptRefusal) (why : ScriptCause) → IsScript text (Err refusal) → IsScriptRun trace text known known (Err (script_fault refusal why))
refused-by trace text known refusal BadWord h = (h, refl)
refused-by trace text known refusal BadNumber h = (h, refl)
refused-by trace text known refusal BadClient h = (h, refl)
refused-by trace text known refusal BadName h = (h, refl)
refused-by trace text known refusal LineTooLong h = (h, refl)
refused-by trace text known refusal NoScriptMemory h = inl refl

-- the script is refused
pub script-refused : (trace : Recording) (text : List ℕ) (known : Option (List ℕ)) (refusal : ScriptRefusal) (r : Result Tally ReplayFault) → r ≡ Err (script_fault refusal refusal.why) → (refusal ≡ no_memory) ⊎ IsScript text (Err refusal) → IsScriptRun trace text known known r
script-refused trace text known refusal r e (inl memory) =
    let none : r ≡ Err OutOfMemory = e ∙ ap (λ (m : ScriptRefusal). Err (script_fault m m.why)) memory in
    subst (IsScriptRun trace text known known) (sym none) (inl refl)
script-refused trace text known refusal r e (inr h) =
    subst (IsScriptRun trace text known known) (sym e) (refused-by trace text known refusal refusal.why h)

-- no reader is at fault once all was read
pub run-not_read : (trace : Recording) (text : List ℕ) (old new : Option (List ℕ)) (r : Result Tally ReplayFault) (input : ℕ) (why : ReadCause) → IsScriptRun trace text old new r → r ≡ Err (Read input why) → ⊥
run-not_read trace text old new r input why h e = (subst (IsScriptRun trace text old new) e h).2

module _ (t : Texts) (trace : Recording) (first : IsShort t.first) (second : IsShort t.second) (is : trace_of t.trace ≡ Ok trace) where
  abbrev said : (asked : List Asked) → IsScript t.script (Ok asked) → Said t
  said asked script =
      record {
        trace = trace;
        asked = asked;
        first_short = first;
        second_short = second;
        trace_is = is;
        script_is = script;
      }

  -- the script was read, and its calls were made
  pub replayed : (old new : Option (List ℕ)) (r : Result Tally ReplayFault) → IsScriptRun trace t.script old new r → IsReplay t old new r
  replayed old new (Ok tally) h = (said h.0 h.1, h.2.0, h.2.1)
  replayed old new (Err (Script refusal)) h = (((first, trace, is), second, h.0), h.1)
  replayed old new (Err Write) h = inr (said h.0 h.1, h.2)
  replayed old new (Err OutOfMemory) h =
      ⊎_elim
      (λ (nothing : new ≡ old). inl nothing)
      (λ (part : (asked : List Asked) × IsScript t.script (Ok asked) × IsRun trace asked old new (Err OutOfMemory)). inr (said part.0 part.1, part.2))
      h
  replayed old new (Err (Text refusal)) h = absurd h.2
  replayed old new (Err (Rule refusal)) h = absurd h.2
  replayed old new (Err (Read input why)) h = absurd h.2

not_write : (refusal : ScriptRefusal) (why : ScriptCause) → script_fault refusal why ≡ Write → ⊥
not_write refusal BadWord e = cc
not_write refusal BadNumber e = cc
not_write refusal BadClient e = cc
not_write refusal BadName e = cc
not_write refusal LineTooLong e = cc
not_write refusal NoScriptMemory e = cc

-- a script's refusal is no fault of the writer
pub refused-not_write : {A : Type 0} (refusal : ScriptRefusal) (r : Result A ReplayFault) → r ≡ Err (script_fault refusal refusal.why) → r ≡ Err Write → ⊥
refused-not_write refusal r e write =
    let same : script_fault refusal refusal.why ≡ Write = cc in
    not_write refusal refusal.why same

-- nor is a trace's refusal one of a reader or of the writer
pub unloaded-not_read : (text : List ℕ) (fault : ReplayFault) (input : ℕ) (why : ReadCause) → (fault ≡ OutOfMemory) ⊎ (trace_of text ≡ Err fault) → fault ≡ Read input why → ⊥
unloaded-not_read text fault input why (inl memory) e = cc
unloaded-not_read text fault input why (inr refused) e = subst IsOfTrace e (of_reading _ fault refused)

pub unloaded-not_write : (text : List ℕ) (fault : ReplayFault) → (fault ≡ OutOfMemory) ⊎ (trace_of text ≡ Err fault) → fault ≡ Write → ⊥
unloaded-not_write text fault (inl memory) e = cc
unloaded-not_write text fault (inr refused) e = subst IsOfTrace e (of_reading _ fault refused)

-- the trace was loaded
pub loaded : (text : List ℕ) (trace : Recording) → (Ok trace ≡ Err OutOfMemory) ⊎ (trace_of text ≡ Ok trace) → trace_of text ≡ Ok trace
loaded text trace (inl memory) = cc
loaded text trace (inr is) = is
