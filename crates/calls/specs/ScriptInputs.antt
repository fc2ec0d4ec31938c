-- The scripts that are to run at once: input i + 1 is the script of client i. All notions here are this project's own.
use Rattle.std.specs.Prelude.{◌≡◌, ◌⊎◌, ◌==◌, ◌<◌, ℕ, suc, ◌+◌, not, find, option_map, List, [], ◌∷◌, ◌++◌, length, All, Option, Some, Ok, Err, IfSome, Vec, vec_len, ⊤}
use Rattle.script_language.specs.Scripts.{Asked, IsScript}
use Rattle.client_scripts.specs.Loading.{IsTold}
use Rattle.client_scripts.specs.Replay.{IsShort}
use Rattle.client_scripts.specs.declared.fault.TheConstants.{LIMIT}
use Rattle.client_scripts.specs.declared.fault.ReadCause.TheVariants.{Device, TooLong}
use Rattle.client_scripts.specs.declared.fault.ReplayFault.TheVariants.{Read, OutOfMemory}
use Rattle.script_language.specs.declared.refusal.ScriptCause.{ScriptCause}
use Rattle.script_language.specs.declared.refusal.ScriptCause.TheVariants.{BadClient, OutOfMemory as NoScriptMemory}
use Rattle.script_language.specs.declared.refusal.ScriptRefusal.{ScriptRefusal}
use Rattle.calls.specs.declared.fault.BenchFault.{BenchFault}
use Rattle.calls.specs.declared.fault.BenchFault.TheVariants.{Replay, Script}

-- the bytes are within the limit of an input, and are the reader's bytes, if the reader shows them
abbrev pub IsReadAs : Option (List ℕ) → List ℕ → Type 0
IsReadAs rest bytes = IsShort bytes × IsTold rest bytes

-- the text says these calls, all of this client
abbrev pub IsScriptOf : ℕ → List ℕ → List Asked → Type 0
IsScriptOf client text asked = IsScript text (Ok asked) × All (λ (a : Asked). a.client ≡ client) asked

-- these readers have the scripts of the clients from this one on
abbrev pub AreScripts : ℕ → List (Option (List ℕ)) → List (List Asked) → Type 0
AreScripts n [] [] = ⊤
AreScripts n [] (s ∷ scripts) = ⊥
AreScripts n (r ∷ rests) [] = ⊥
AreScripts n (r ∷ rests) (s ∷ scripts) = ((text : List ℕ) × IsReadAs r text × IsScriptOf n text s) × AreScripts (suc n) rests scripts

-- the reader has the script of the next client, which is added to these
abbrev pub AddsScript : {A : Type 0} → Option (List ℕ) → Vec (List Asked) A → Vec (List Asked) A → Type 0
AddsScript rest old new =
    (text : List ℕ) × (asked : List Asked) × IsReadAs rest text × IsScriptOf (vec_len old + 1) text asked × (new.items ≡ old.items ++ asked ∷ [])

-- the script is refused, or the first call of another client is
abbrev pub IsRefused : ℕ → List ℕ → ScriptRefusal → Type 0
IsRefused client text refusal =
    IsScript text (Err refusal)
    ⊎ ((asked : List Asked)
    × IsScript text (Ok asked)
    × (option_map (λ (a : Asked). a.line) (find (λ (a : Asked). not (a.client == client)) asked) ≡ Some refusal.line)
    × (refusal.why ≡ BadClient))

-- why the script of this client was not taken from its text
abbrev pub IsTextFault : ℕ → List ℕ → BenchFault → Type 0
IsTextFault client text (Script place refusal) = (place ≡ client) × IsRefused client text refusal
IsTextFault client text (Replay OutOfMemory) = ⊤
IsTextFault client text fault = ⊥

-- and why not from its reader
abbrev pub IsScriptFault : ℕ → Option (List ℕ) → BenchFault → Type 0
IsScriptFault client rest (Script place refusal) = (place ≡ client) × ((text : List ℕ) × IsReadAs rest text × IsRefused client text refusal)
IsScriptFault client rest (Replay (Read input Device)) = input ≡ client + 1
IsScriptFault client rest (Replay (Read input TooLong)) = (input ≡ client + 1) × IfSome rest (λ told. LIMIT < length told)
IsScriptFault client rest (Replay OutOfMemory) = ⊤
IsScriptFault client rest fault = ⊥

-- Why the scripts were not read: those before were, and the next one is at fault.
pub record IsFirstFault (rests : List (Option (List ℕ))) (fault : BenchFault) : Type 0 where
  pub before : List (Option (List ℕ))
  pub rest : Option (List ℕ)
  pub behind : List (Option (List ℕ))
  pub scripts : List (List Asked)
  pub split : rests ≡ before ++ rest ∷ behind
  pub read : AreScripts 1 before scripts
  pub at_fault : IsScriptFault (suc (length before)) rest fault

-- the fault for a refusal
abbrev pub refused_as : ℕ → ScriptRefusal → ScriptCause → BenchFault
refused_as place refusal NoScriptMemory = Replay OutOfMemory
refused_as place refusal why = Script place refusal
