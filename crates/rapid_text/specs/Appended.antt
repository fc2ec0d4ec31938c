-- What functions say of what they append, and of what they find.
use Rattle.std.specs.Prelude.{◌≡◌, List, ◌++◌, Option, IfSome, Result, OnOk, IfOk, Vec}

-- unless the answer is an error, these items were appended, as the bytes of a text
abbrev pub Appended : {X A T E : Type 0} → Result T E → Vec X A → Vec X A → List X → Type 0
Appended answer old new items = OnOk answer (new.items ≡ old.items ++ items)

-- unless the answer is an error, items were appended of which P holds
abbrev pub AppendedOne : {X A T E : Type 0} → Result T E → Vec X A → Vec X A → (List X → Type 0) → Type 0
AppendedOne {X} answer old new P = OnOk answer ((items : List X) × (new.items ≡ old.items ++ items) × P items)

-- if a value was found, without an error, P holds of it
abbrev pub IfFound : {T E : Type 0} → Result (Option T) E → (T → Type 0) → Type 0
IfFound answer P = IfOk answer (λ found. IfSome found P)
