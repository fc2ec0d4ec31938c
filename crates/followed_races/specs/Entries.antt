-- What a line of `record/confirm` reports about a race, from the JSON value of the line. All notions here are this
-- project's own.
use Rattle.std.specs.Prelude.{◌≡◌, ℕ, Bool, ◌&&◌, ◌||◌, List, [], Option, is_some, option_and_then, unwrap_or, codes, bytes_eq}
use Rattle.serde_json.specs.Data.{Data}
use Rattle.serde_json.specs.Find.{as_bool, as_number, as_str, as_u64, at, get}
use Rattle.followed_races.specs.declared.entries.Followed.{Followed}

-- the item at this index of a member's list
abbrev pub item_in : List ℕ → ℕ → Data → Option Data
item_in name place d = option_and_then (at place) (get name d)

-- a number, a text, or a truth value; None if there is none
abbrev pub find_number : List ℕ → ℕ → Data → Option ℕ
find_number name place d = option_and_then as_u64 (option_and_then as_number (item_in name place d))

abbrev pub find_text_at : List ℕ → ℕ → Data → Option (List ℕ)
find_text_at name place d = option_and_then as_str (item_in name place d)

abbrev pub find_text : List ℕ → Data → Option (List ℕ)
find_text name d = option_and_then as_str (get name d)

abbrev pub said_flag : List ℕ → Data → Option Bool
said_flag name d = option_and_then as_bool (get name d)

-- the same; 0 or empty if there is none
abbrev pub said_number : List ℕ → ℕ → Data → ℕ
said_number name place d = unwrap_or (find_number name place d) 0

abbrev pub said_text_at : List ℕ → ℕ → Data → List ℕ
said_text_at name place d = unwrap_or (find_text_at name place d) []

abbrev pub said_text : List ℕ → Data → List ℕ
said_text name d = unwrap_or (find_text name d) []

-- the two ways in which following ends
abbrev pub is_ended : List ℕ → Bool
is_ended word = bytes_eq word (codes "stands") || bytes_eq word (codes "departed")

-- whether the value has what a line must have: two events, two locations, and how following ended
abbrev pub is_entry : Data → Bool
is_entry d =
    is_some (find_number (codes "events") 0 d)
    && is_some (find_number (codes "events") 1 d)
    && is_some (find_text_at (codes "locations") 0 d)
    && is_some (find_text_at (codes "locations") 1 d)
    && is_ended (said_text (codes "ended") d)

-- The entry has the values of the line.
pub record IsSaid (d : Data) (f : Followed) : Type 0 where
  pub first_event : f.first_event ≡ said_number (codes "events") 0 d
  pub second_event : f.second_event ≡ said_number (codes "events") 1 d
  pub first_location : f.first_location.items ≡ said_text_at (codes "locations") 0 d
  pub second_location : f.second_location.items ≡ said_text_at (codes "locations") 1 d
  pub ended : f.ended.items ≡ said_text (codes "ended") d
  pub text : f.text.items ≡ said_text (codes "text") d
  pub same_memory : f.same_memory ≡ said_flag (codes "same_memory") d
  pub first : f.first.items ≡ said_text (codes "first") d
  pub second : f.second.items ≡ said_text (codes "second") d
  pub matters : f.matters ≡ said_flag (codes "matters") d
  pub why : f.why.items ≡ said_text (codes "why") d
