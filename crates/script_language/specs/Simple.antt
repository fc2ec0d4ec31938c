-- The calls that own no memory, as their lines have them. No public clause cites this module.
use Rattle.std.specs.Prelude.{◌≡◌, ◌≢◌, ℕ, ◌≤◌, List, [], ◌∷◌, ◌++◌, length, get_or, Option, Some, Result, Ok}
use Rattle.inverse_log.specs.declared.call.Call.{Call}
use Rattle.inverse_log.specs.declared.call.Call.TheVariants.{Undo}
use Rattle.script_language.specs.Kept.{asked_of, call_in, HasNames}
use Rattle.script_language.specs.declared.kept.Form.TheVariants.{Owned}
use Rattle.script_language.specs.declared.kept.Kept.{Kept}
use Rattle.script_language.specs.declared.simple.Simple.{Simple}
use Rattle.script_language.specs.declared.simple.Found.{Found}
use Rattle.script_language.specs.declared.simple.Found.TheVariants.{Simple as FoundSimple, Batch as FoundBatch}
use Rattle.script_language.specs.declared.refusal.ScriptCause.{ScriptCause}
use Rattle.script_language.specs.declared.verb.Verb.{Verb}
use Rattle.script_language.specs.Scripts.{Asked, arguments_reading, asked, then_read, batch_reading}

-- the call
abbrev pub simple_call : Simple → Call → Call
simple_call s own = call_in s.form s.name.now s.to.now s.number own

-- these words read as the call, for a call of this kind
abbrev pub ReadsAs : Option Verb → List (List ℕ) → Simple → Type 0
ReadsAs verb words s = (own : Call) → arguments_reading verb words ≡ Ok (simple_call s own)

-- what is kept is the call with its line and its client, for any list of calls that own memory
abbrev pub KeepsSimple : List ℕ → Kept → ℕ → ℕ → Simple → Type 0
KeepsSimple names k line client s =
    (owned : List Call) → asked_of names owned k ≡ asked line client (simple_call s (get_or owned k.at Undo))

-- the call was appended with its line and its client
abbrev pub AddsSimple : List Asked → ℕ → ℕ → Simple → List Asked → Type 0
AddsSimple old line client s new = (own : Call) × (new ≡ old ++ asked line client (simple_call s own) ∷ [])

-- The call has the names of its form, and can be kept.
pub record IsSimple (s : Simple) : Type 0 where
  pub form : s.form ≢ Owned
  pub name : length s.name.now ≤ 64
  pub to : length s.to.now ≤ 64
  pub named : HasNames s.form s.name.now s.to.now

-- what is found is the call that its words read as
abbrev pub AsksCall : Found → Result Call ScriptCause → Type 0
AsksCall (FoundSimple s) reading = IsSimple s × ((own : Call) → reading ≡ Ok (simple_call s own))
AsksCall (FoundBatch words) reading = reading ≡ batch_reading words

-- the same for a client and its call
abbrev pub AsksWords : ℕ → Found → Result (ℕ × Call) ScriptCause → Type 0
AsksWords client (FoundSimple s) reading = IsSimple s × ((own : Call) → reading ≡ Ok (client, simple_call s own))
AsksWords client (FoundBatch words) reading = reading ≡ then_read (batch_reading words) (λ call. Ok (client, call))

-- the same for a line
abbrev pub AsksLine : ℕ → Found → Result (Option (ℕ × Call)) ScriptCause → Type 0
AsksLine client (FoundSimple s) reading = IsSimple s × ((own : Call) → reading ≡ Ok (Some (client, simple_call s own)))
AsksLine client (FoundBatch words) reading = reading ≡ then_read (batch_reading words) (λ call. Ok (Some (client, call)))
