-- Scripts that are read one after another, and the first that is at fault.
use Rattle.std.proofs.Common.{◌≡◌, ◌⊎◌, ◌==◌, ℕ, suc, ◌+◌, not, cond, List, [], ◌∷◌, ◌++◌, length, All, Option, Some, None, option_map, find, Err, refl, sym, ap, ◌∙◌, subst, arith, inl, inr, append_assoc}
use Rattle.std.proofs.lemmas.Bool.{cases_Bool, eqb-true}
use Rattle.std.proofs.lemmas.List.Elements.{All-cons}
use Rattle.script_language.specs.Scripts.{Asked, no_memory}
use Rattle.client_scripts.specs.Steps.{IsInput}
use Rattle.client_scripts.specs.declared.fault.ReadCause.TheVariants.{Device, TooLong}
use Rattle.client_scripts.specs.declared.fault.ReplayFault.{ReplayFault}
use Rattle.client_scripts.specs.declared.fault.ReplayFault.TheVariants.{Text, Rule, Script as ScriptRefused, Read, Write, OutOfMemory}
use Rattle.script_language.specs.declared.refusal.ScriptCause.{ScriptCause}
use Rattle.script_language.specs.declared.refusal.ScriptCause.TheVariants.{BadWord, BadNumber, BadClient, BadName, LineTooLong, OutOfMemory as NoScriptMemory}
use Rattle.script_language.specs.declared.refusal.ScriptRefusal.{ScriptRefusal}
use Rattle.calls.specs.ScriptInputs.{IsReadAs, IsScriptOf, AreScripts, IsRefused, IsTextFault, IsScriptFault, IsFirstFault, refused_as}
use Rattle.calls.specs.declared.fault.BenchFault.{BenchFault}
use Rattle.calls.specs.declared.fault.BenchFault.TheVariants.{Replay, Script, NoThread, TooManyScripts, NoSuchEvent, NoName}

-- where none is of another client, all are of this one
all_of : (n : ℕ) (asked : List Asked) → find (λ (a : Asked). not (a.client == n)) asked ≡ None → All (λ (a : Asked). a.client ≡ n) asked
all_of n [] e = λ k d below. absurd (omega (arith, below))
all_of n (a ∷ asked) e =
    elim (cases_Bool (a.client == n)) [
      | inl y ↦ (let rest = all_of n asked (ap (λ b. cond (not b) (Some a) (find (λ (a : Asked). not (a.client == n)) asked)) (sym y) ∙ e) in All-cons (λ (a : Asked). a.client ≡ n) a asked (eqb-true a.client n y) rest)
      | inr f ↦ absurd (cc (ap (λ b. cond (not b) (Some a) (find (λ (a : Asked). not (a.client == n)) asked)) (sym f) ∙ e))
    ]

no_line : (r : Option Asked) → option_map (λ (a : Asked). a.line) r ≡ None → r ≡ None
no_line None e = refl
no_line (Some a) e = absurd (cc e)

pub none_strange : (n : ℕ) (asked : List Asked) → option_map (λ (a : Asked). a.line) (find (λ (a : Asked). not (a.client == n)) asked) ≡ None → All (λ (a : Asked). a.client ≡ n) asked
none_strange n asked e = all_of n asked (no_line (find (λ (a : Asked). not (a.client == n)) asked) e)

why_not : (refusal : ScriptRefusal) (client : ℕ) (text : List ℕ) → (refusal.why ≡ NoScriptMemory → ⊥) → (refusal ≡ no_memory) ⊎ IsRefused client text refusal → IsRefused client text refusal
why_not refusal client text other (inl memory) = absurd (other (ap (λ (r : ScriptRefusal). r.why) memory))
why_not refusal client text other (inr h) = h

-- a refusal is told with its client
pub refused_fault : (client : ℕ) (text : List ℕ) (refusal : ScriptRefusal) (why : ScriptCause) → refusal.why ≡ why → (refusal ≡ no_memory) ⊎ IsRefused client text refusal → IsTextFault client text (refused_as client refusal why)
refused_fault client text refusal BadWord e h = (refl, why_not refusal client text (λ m. cc (sym e ∙ m)) h)
refused_fault client text refusal BadNumber e h = (refl, why_not refusal client text (λ m. cc (sym e ∙ m)) h)
refused_fault client text refusal BadClient e h = (refl, why_not refusal client text (λ m. cc (sym e ∙ m)) h)
refused_fault client text refusal BadName e h = (refl, why_not refusal client text (λ m. cc (sym e ∙ m)) h)
refused_fault client text refusal LineTooLong e h = (refl, why_not refusal client text (λ m. cc (sym e ∙ m)) h)
refused_fault client text refusal NoScriptMemory e h = tt

-- the input was not read
pub input_fault : (client input : ℕ) (rest : Option (List ℕ)) (fault : ReplayFault) → input ≡ client + 1 → IsInput input rest (Err fault) → IsScriptFault client rest (Replay fault)
input_fault client input rest (Read place Device) e h = h ∙ e
input_fault client input rest (Read place TooLong) e h = (h.0 ∙ e, h.1)
input_fault client input rest OutOfMemory e h = tt
input_fault client input rest (Text refusal) e h = absurd h
input_fault client input rest (Rule refusal) e h = absurd h
input_fault client input rest (ScriptRefused refusal) e h = absurd h
input_fault client input rest Write e h = absurd h

-- the text of the input is at fault
pub text_fault_of : (client : ℕ) (rest : Option (List ℕ)) (text : List ℕ) (fault : BenchFault) → IsReadAs rest text → IsTextFault client text fault → IsScriptFault client rest fault
text_fault_of client rest text (Script place refusal) told h = (h.0, (text, told, h.1))
text_fault_of client rest text (Replay OutOfMemory) told h = tt
text_fault_of client rest text (Replay (Read place why)) told h = absurd h
text_fault_of client rest text (Replay (Text refusal)) told h = absurd h
text_fault_of client rest text (Replay (Rule refusal)) told h = absurd h
text_fault_of client rest text (Replay (ScriptRefused refusal)) told h = absurd h
text_fault_of client rest text (Replay Write) told h = absurd h
text_fault_of client rest text NoThread told h = absurd h
text_fault_of client rest text TooManyScripts told h = absurd h
text_fault_of client rest text NoSuchEvent told h = absurd h
text_fault_of client rest text NoName told h = absurd h

-- one script more was read
pub scripts_more : (n : ℕ) (rests : List (Option (List ℕ))) (scripts : List (List Asked)) (rest : Option (List ℕ)) (script : List Asked) → AreScripts n rests scripts → ((text : List ℕ) × IsReadAs rest text × IsScriptOf (n + length rests) text script)
    → AreScripts n (rests ++ rest ∷ []) (scripts ++ script ∷ [])
scripts_more n [] [] rest script h one = ((one.0, one.1, subst (λ m. IsScriptOf m one.0 script) (omega arith) one.2), tt)
scripts_more n [] (s ∷ scripts) rest script h one = absurd h
scripts_more n (r ∷ rests) [] rest script h one = absurd h
scripts_more n (r ∷ rests) (s ∷ scripts) rest script h one =
    (h.0, scripts_more (suc n) rests scripts rest script h.1 (one.0, one.1, subst (λ m. IsScriptOf m one.0 script) (omega arith) one.2))

pub scripts_len : (n : ℕ) (rests : List (Option (List ℕ))) (scripts : List (List Asked)) → AreScripts n rests scripts → length scripts ≡ length rests
scripts_len n [] [] h = refl
scripts_len n [] (s ∷ scripts) h = absurd h
scripts_len n (r ∷ rests) [] h = absurd h
scripts_len n (r ∷ rests) (s ∷ scripts) h = ap suc (scripts_len (suc n) rests scripts h.1)

-- One script more: those before it, and it, are those of the first readers; or it is the first at fault.
module _ (rests before left : List (Option (List ℕ))) (rest : Option (List ℕ)) (scripts : List (List Asked)) (n : ℕ) (split : before ++ rest ∷ left ≡ rests) (read : AreScripts 1 before scripts) (long : n ≡ length scripts) where
  place : n + 1 ≡ 1 + length before
  place = let same = scripts_len 1 before scripts read in omega arith

  pub scripts_next : (now : List (List Asked)) → ((text : List ℕ) × (asked : List Asked) × IsReadAs rest text × IsScriptOf (n + 1) text asked × (now ≡ scripts ++ asked ∷ []))
      → (done : List (Option (List ℕ))) × (done ++ left ≡ rests) × AreScripts 1 done now
  scripts_next now one = (
    before ++ rest ∷ [],
    append_assoc before (rest ∷ []) left ∙ split,
    subst (AreScripts 1 (before ++ rest ∷ [])) (sym one.4) (scripts_more 1 before scripts rest one.1 read (one.0, one.2, subst (λ m. IsScriptOf m one.0 one.1) place one.3)),
  )

  pub first_fault : (fault : BenchFault) → IsScriptFault (n + 1) rest fault → IsFirstFault rests fault
  first_fault fault h =
      record { before = before; rest = rest; behind = left; scripts = scripts; split = sym split; read = read; at_fault = subst (λ m. IsScriptFault m rest fault) (place ∙ omega arith) h }
