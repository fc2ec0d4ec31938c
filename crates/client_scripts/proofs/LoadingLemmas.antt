-- What the steps of the reading of a trace say of the whole: refusals as faults of a replay, and traces of the bytes.
use Rattle.std.proofs.Common.{◌≡◌, ◌≢◌, ◌⊎◌, ℕ, List, Option, Some, Result, Ok, Err, IfOk, IfErr, refl, sym, ap, ◌∙◌, inl, inr, ⊎_elim}
use Rattle.rapid_text.specs.Recording.{Recording}
use Rattle.trace_rules.specs.Rules.{no_memory}
use Rattle.trace_rules.specs.declared.refusal.RuleRefusal.{RuleRefusal}
use Rattle.trace_rules.specs.declared.refusal.RuleCause.{RuleCause}
use Rattle.trace_rules.specs.declared.refusal.RuleCause.TheVariants.{ReleaseNotHeld, AcquireHeld, ForkTwice, ForkLate, OwnThread, AfterJoin, OutOfMemory as NoRuleMemory}
use Rattle.client_scripts.specs.Loading.{IsReadFrom, IsTold, IsUnreadFrom}
use Rattle.client_scripts.specs.Replay.{IsShort, of_trace}
use Rattle.client_scripts.specs.Steps.{rule_fault}
use Rattle.client_scripts.specs.Traces.{trace_checked, trace_of}
use Rattle.client_scripts.specs.declared.fault.ReadCause.{ReadCause}
use Rattle.client_scripts.specs.declared.fault.ReplayFault.{ReplayFault}
use Rattle.client_scripts.specs.declared.fault.ReplayFault.TheVariants.{Script, Read, Rule, Write, OutOfMemory}
use Rattle.script_language.specs.declared.refusal.ScriptRefusal.{ScriptRefusal}
use Rattle.client_scripts.proofs.CallerLemmas.{load-fault}
use Rattle.client_scripts.proofs.ReplayLemmas.{loaded, of_reading}

-- a refusal becomes want of memory, or the fault that holds it
rule_fault-is : (refusal : RuleRefusal) (why : RuleCause) → (rule_fault refusal why ≡ OutOfMemory) ⊎ (rule_fault refusal why ≡ Rule refusal)
rule_fault-is refusal NoRuleMemory = inl refl
rule_fault-is refusal ReleaseNotHeld = inr refl
rule_fault-is refusal AcquireHeld = inr refl
rule_fault-is refusal ForkTwice = inr refl
rule_fault-is refusal ForkLate = inr refl
rule_fault-is refusal OwnThread = inr refl
rule_fault-is refusal AfterJoin = inr refl

-- what `check` refuses is want of memory, or the fault of the recording
pub trace_checked-refused :
    (raw : Recording) (first : Option RuleRefusal) (refusal : RuleRefusal) (fault : ReplayFault)
    → fault ≡ rule_fault refusal refusal.why
    → (refusal ≡ no_memory) ⊎ (first ≡ Some refusal)
    → (fault ≡ OutOfMemory) ⊎ (trace_checked raw first ≡ Err fault)
trace_checked-refused raw first refusal fault is (inl none) = inl (is ∙ ap (λ (r : RuleRefusal). rule_fault r r.why) none)
trace_checked-refused raw first refusal fault is (inr breach) =
    ⊎_elim
    (λ h. inl (is ∙ h))
    (λ h. inr (ap (trace_checked raw) breach ∙ ap Err (sym (is ∙ h))))
    (rule_fault-is refusal refusal.why)

-- What was loaded of bytes that were read, which are the reader's.
module _ (rest : Option (List ℕ)) (bytes read : List ℕ) (same : read ≡ bytes) (short : IsShort bytes) (told : IsTold rest bytes) where
  -- a trace is theirs
  pub loads : (r : Result Recording ReplayFault) → (r ≡ Err OutOfMemory) ⊎ (trace_of read ≡ r) → IfOk r (IsReadFrom rest)
  loads (Ok trace) h = (bytes, told, (short, ap trace_of (sym same) ∙ loaded read trace h))
  loads (Err fault) h = tt

  -- and so is a fault
  pub unloads : (r : Result Recording ReplayFault) → (r ≡ Err OutOfMemory) ⊎ (trace_of read ≡ r) → IfErr r (IsUnreadFrom rest)
  unloads (Ok trace) h = tt
  unloads (Err fault) (inl memory) = (bytes, told, inl (cc memory))
  unloads (Err fault) (inr is) = (bytes, told, load-fault (of_trace bytes) fault short (inr (ap trace_of (sym same) ∙ is)))

-- a fault of a trace's bytes is none of a reader
pub loads-not_read : (read : List ℕ) (r : Result Recording ReplayFault) → (r ≡ Err OutOfMemory) ⊎ (trace_of read ≡ r) → (input : ℕ) (why : ReadCause) → r ≢ Err (Read input why)
loads-not_read read r (inl memory) input why e = cc
loads-not_read read r (inr is) input why e = of_reading _ (Read input why) (is ∙ e)

-- nor of a script
pub loads-not_script : (read : List ℕ) (r : Result Recording ReplayFault) → (r ≡ Err OutOfMemory) ⊎ (trace_of read ≡ r) → (refusal : ScriptRefusal) → r ≢ Err (Script refusal)
loads-not_script read r (inl memory) refusal e = cc
loads-not_script read r (inr is) refusal e = of_reading _ (Script refusal) (is ∙ e)

-- nor of a writer
pub loads-not_write : (read : List ℕ) (r : Result Recording ReplayFault) → (r ≡ Err OutOfMemory) ⊎ (trace_of read ≡ r) → r ≢ Err Write
loads-not_write read r (inl memory) e = cc
loads-not_write read r (inr is) e = of_reading _ Write (is ∙ e)
