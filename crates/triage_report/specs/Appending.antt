-- What functions say of the texts and of the JSON values that they append.
use Rattle.std.specs.Prelude.{◌≡◌, ℕ, List, [], ◌∷◌, ◌++◌, map, Result, OnOk, String, Vec}
use Rattle.std.specs.BTreeMap.{BTreeMap}
use Rattle.std.specs.declared.alloc.Global.{Global}
use Rattle.serde_json.specs.Data.{Data, object, put}
use Rattle.serde_json.specs.View.{members_view, view}
use Rattle.serde_json.specs.declared.value.Value.{Value}

-- unless the answer is an error, the printed form of something was appended of which P holds
abbrev pub AppendedAs :
    {X T E : Type 0} → Result T E → Vec ℕ Global → Vec ℕ Global → (X → Type 0) → (X → List ℕ) → Type 0
AppendedAs {X} answer old new P text = OnOk answer ((x : X) × P x × (new.items ≡ old.items ++ text x))

-- unless the answer is an error, a text was appended of which P holds
abbrev pub AppendedText : {T E : Type 0} → Result T E → Vec ℕ Global → Vec ℕ Global → (List ℕ → Type 0) → Type 0
AppendedText answer old new P = OnOk answer ((text : List ℕ) × P text × (new.items ≡ old.items ++ text))

-- unless the answer is an error, these values were appended to the list
abbrev pub AppendedViews : {T E : Type 0} → Result T E → Vec Value Global → Vec Value Global → List Data → Type 0
AppendedViews answer old new ds = OnOk answer (map view new.items ≡ map view old.items ++ ds)

-- unless the answer is an error, this value was appended to the list
abbrev pub AppendedView : {T E : Type 0} → Result T E → Vec Value Global → Vec Value Global → Data → Type 0
AppendedView answer old new d = AppendedViews answer old new (d ∷ [])

-- Unless the answer is an error, only the member with this name is missing. With the value d, the object is `whole d`.
abbrev pub FilledBut :
    {T E : Type 0} → Result T E → BTreeMap (String Global) Value → List ℕ → (Data → Data) → Type 0
FilledBut answer new name whole = OnOk answer ((d : Data) → object (put name d (members_view new.entries)) ≡ whole d)
