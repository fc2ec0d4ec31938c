-- The locks of an access are those of its value.
use Rattle.std.proofs.Common.{◌≡◌, refl, ap, ◌∙◌, ℕ, List, [], ◌∷◌, ◌++◌, map, codes, Some, None}
use Rattle.serde_json.specs.Data.{Data}
use Rattle.serde_json.specs.Find.{as_array, get}
use Rattle.serde_json.specs.View.{items_of, items_view, view}
use Rattle.serde_json.specs.declared.value.Value.{Value}
use Rattle.race_page.specs.MergedTable.{list_locks, lock_items, lock_names, lock_text, locks_by, locks_cell, locks_listed, locks_text}

items_are : (vs : List Value) → lock_items (items_of (map view vs)) ≡ lock_names vs
items_are [] = refl
items_are (v ∷ vs) = ap (λ (xs : List ℕ). lock_text (view v) ++ xs) (items_are vs)

listed_are : (vs : List Value) → locks_listed (items_of (map view vs)) ≡ locks_cell vs
listed_are [] = refl
listed_are (v ∷ vs) = items_are (v ∷ vs)

pub locks_are : (d e : Data) (vs : List Value) → get (codes "holds") d ≡ Some e → as_array e ≡ Some (items_view vs) → locks_text d ≡ locks_cell vs
locks_are d e vs there list = ap locks_by there ∙ ap list_locks list ∙ listed_are vs
