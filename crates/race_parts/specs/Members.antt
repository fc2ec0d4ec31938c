-- Members of a JSON object. All notions here are this project's own.
use Rattle.std.specs.Prelude.{ℕ, Bool, List, [], Option, is_some, option_and_then, unwrap_or, codes, bytes_eq}
use Rattle.serde_json.specs.Data.{Data}
use Rattle.serde_json.specs.Find.{as_number, as_str, as_u64, at, get}

-- a member as a number or a text; None if there is no such member, or if it is of another kind
abbrev pub find_number : List ℕ → Data → Option ℕ
find_number name d = option_and_then as_u64 (option_and_then as_number (get name d))

abbrev pub find_text : List ℕ → Data → Option (List ℕ)
find_text name d = option_and_then as_str (get name d)

-- whether the member is a number or a text
abbrev pub has_number : List ℕ → Data → Bool
has_number name d = is_some (find_number name d)

abbrev pub has_text : List ℕ → Data → Bool
has_text name d = is_some (find_text name d)

-- a member as a number or a text; 0 or empty if it is not one
abbrev pub said_number : List ℕ → Data → ℕ
said_number name d = unwrap_or (find_number name d) 0

abbrev pub said_text : List ℕ → Data → List ℕ
said_text name d = unwrap_or (find_text name d) []

-- whether the member `kind` is equal to this word
abbrev pub is_kind : List ℕ → Data → Bool
is_kind word d = bytes_eq (said_text (codes "kind") d) word

-- the access with this index, 0 or 1
abbrev pub access_in : ℕ → Data → Option Data
access_in place d = option_and_then (at place) (get (codes "accesses") d)
