-- How a script keeps its calls: each in few bytes, and once for all calls the bytes of their names and the calls that
-- own memory. No public clause cites this module.
use Rattle.std.specs.Prelude.{◌≡◌, ℕ, ◌+◌, ◌<◌, ◌≤◌, true, List, ◌++◌, map, length, take, drop, get_or, All, ⊤}
use Rattle.moves.specs.Names.{is_name}
use Rattle.moves.specs.declared.command.Command.TheVariants.{Fresh, Add, Back, Swap, Branch, Drop, Adopt}
use Rattle.inverse_log.specs.declared.call.Call.{Call}
use Rattle.inverse_log.specs.declared.call.Call.TheVariants.{Do, Undo, UndoAt, Show, List as ListNames, Races}
use Rattle.dependence.specs.Limits.{client_limit}
use Rattle.script_language.specs.Scripts.{Asked}
use Rattle.script_language.specs.declared.kept.Form.{Form}
use Rattle.script_language.specs.declared.kept.Form.TheVariants.{Fresh as FreshForm, Add as AddForm, Back as BackForm, Swap as SwapForm, Branch as BranchForm, Drop as DropForm, Adopt as AdoptForm, Undo as UndoForm, UndoAt as UndoAtForm, Show as ShowForm, List as ListForm, Races as RacesForm, Owned}
use Rattle.script_language.specs.declared.kept.Kept.{Kept}
use Rattle.script_language.specs.declared.script.Script.TheInside.{Inside}

-- the name of a kept call
abbrev pub name_in : List ℕ → Kept → List ℕ
name_in names k = take k.name (drop k.at names)

-- the second name of a kept call, which comes after the first
abbrev pub to_in : List ℕ → Kept → List ℕ
to_in names k = take k.to (drop (k.at + k.name) names)

-- the call of this form with these names and this number, or the one that owns memory
abbrev pub call_in : Form → List ℕ → List ℕ → ℕ → Call → Call
call_in FreshForm name to number own = Do (Fresh name)
call_in AddForm name to number own = Do (Add name number)
call_in BackForm name to number own = Do (Back name)
call_in SwapForm name to number own = Do (Swap name number)
call_in BranchForm name to number own = Do (Branch name number to)
call_in DropForm name to number own = Do (Drop name)
call_in AdoptForm name to number own = Do (Adopt name number)
call_in UndoForm name to number own = Undo
call_in UndoAtForm name to number own = UndoAt number
call_in ShowForm name to number own = Show name
call_in ListForm name to number own = ListNames
call_in RacesForm name to number own = Races name
call_in Owned name to number own = own

-- the call that is kept, or this one if it owns memory
abbrev pub kept_call : List ℕ → Kept → Call → Call
kept_call names k own = call_in k.form (name_in names k) (to_in names k) k.number own

-- what is kept is this call
abbrev pub KeepsCall : List ℕ → Kept → (Call → Call) → Type 0
KeepsCall names k call = (own : Call) → kept_call names k own ≡ call own

-- the call that is kept in this form
abbrev pub call_of : List ℕ → List Call → Kept → Call
call_of names owned k = call_in k.form (name_in names k) (to_in names k) k.number (get_or owned k.at Undo)

-- the call with its line and its client
abbrev pub asked_of : List ℕ → List Call → Kept → Asked
asked_of names owned k = record { line = k.line; client = k.client; call = call_of names owned k }

-- the names of a kept call are inside the bytes of all names, or the call is among those that own memory
abbrev pub IsWithin : Form → List ℕ → List Call → Kept → Type 0
IsWithin Owned names owned k = k.at < length owned
IsWithin form names owned k = k.at + k.name + k.to ≤ length names

-- a call of this form has these names
abbrev pub HasNames : Form → List ℕ → List ℕ → Type 0
HasNames BranchForm name to = (is_name name ≡ true) × (is_name to ≡ true)
HasNames UndoForm name to = ⊤
HasNames UndoAtForm name to = ⊤
HasNames ListForm name to = ⊤
HasNames Owned name to = ⊤
HasNames form name to = is_name name ≡ true

-- the kept call has the names of its form
abbrev pub IsNamedIn : List ℕ → Kept → Type 0
IsNamedIn names k = HasNames k.form (name_in names k) (to_in names k)

-- What holds for each kept call.
pub record IsKept (names : List ℕ) (owned : List Call) (k : Kept) : Type 0 where
  pub within : IsWithin k.form names owned k
  pub named : HasNames k.form (name_in names k) (to_in names k)
  pub client : (1 ≤ k.client) × (k.client ≤ client_limit)

-- the second list begins with the first
abbrev pub Begins : {A : Type 0} → List A → List A → Type 0
Begins {A = A} old new = (more : List A) × (new ≡ old ++ more)

-- what the fields mean
abbrev pub calls_in : Inside → List Asked
calls_in s = map (asked_of s.names.items s.owned.items) s.kept.items

-- what holds of the fields of each script
abbrev pub AreKept : Inside → Type 0
AreKept s = All (IsKept s.names.items s.owned.items) s.kept.items
