-- What functions say of a JSON value that they make, and of the members that they put into an object.
use Rattle.std.specs.Prelude.{◌≡◌, Result, OnOk, IfOk, String}
use Rattle.std.specs.BTreeMap.{BTreeMap}
use Rattle.std.specs.declared.alloc.Global.{Global}
use Rattle.serde_json.specs.Data.{Data, Members, object}
use Rattle.serde_json.specs.View.{members_view, view}
use Rattle.serde_json.specs.declared.value.Value.{Value}

-- if a value was made, it is this one
abbrev pub MadeAs : {E : Type 0} → Result Value E → Data → Type 0
MadeAs answer d = IfOk answer (λ made. view made ≡ d)

-- unless the answer is an error, the members are now what `change` makes of the earlier ones
abbrev pub Changed : {T E : Type 0} → Result T E → BTreeMap (String Global) Value → BTreeMap (String Global) Value → (Members → Members) → Type 0
Changed answer old new change = OnOk answer (members_view new.entries ≡ change (members_view old.entries))

-- unless the answer is an error, the members are now those of this object
abbrev pub FilledAs : {T E : Type 0} → Result T E → BTreeMap (String Global) Value → Data → Type 0
FilledAs answer new d = OnOk answer (object (members_view new.entries) ≡ d)
