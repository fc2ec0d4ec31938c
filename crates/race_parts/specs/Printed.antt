-- A row in the form that `triage` prints. All notions here are this project's own.
use Rattle.std.specs.Prelude.{◌≡◌, ℕ, ◌<◌, ◌^◌, Bool, true, List, ◌∷◌, ◌++◌, map, codes}
use Rattle.json.specs.Print.{quoted}
use Rattle.serde_json.specs.Data.{Data, number, unsigned, string, array, object, Items, no_items, item, Members, no_members, member}
use Rattle.serde_json.specs.View.{items_of}
use Rattle.serde_json.specs.Written.{compact_text, items_text, members_text}
use Rattle.race_parts.specs.Rows.{is_how}
use Rattle.race_parts.specs.declared.scan.Access.{Access}

abbrev pub whole : ℕ → Data
whole n = number (unsigned n)

-- a list of texts
abbrev pub strings : List (List ℕ) → Items
strings names = items_of (map string names)

-- the last three members of an access
abbrev pub names_members : List ℕ → List ℕ → List ℕ → Members
names_members operation thread variable =
    member (codes "operation") (string operation)
    (member (codes "thread") (string thread)
    (member (codes "variable") (string variable)
    no_members))

abbrev pub access_data : ℕ → List (List ℕ) → List ℕ → List ℕ → List ℕ → List ℕ → Data
access_data event holds location operation thread variable =
    object
    (member (codes "event") (whole event)
    (member (codes "holds") (array (strings holds))
    (member (codes "location") (string location)
    (names_members operation thread variable))))

-- the members after the accesses, for each kind of row
abbrev pub race_members : ℕ → List ℕ → ℕ → ℕ → ℕ → Members
race_members events how pairs threads variables =
    member (codes "events") (whole events)
    (member (codes "how") (string how)
    (member (codes "kind") (string (codes "race"))
    (member (codes "pairs") (whole pairs)
    (member (codes "threads") (whole threads)
    (member (codes "variables") (whole variables)
    no_members)))))

abbrev pub undecided_members : ℕ → ℕ → ℕ → Members
undecided_members pairs tried variables =
    member (codes "kind") (string (codes "undecided"))
    (member (codes "pairs") (whole pairs)
    (member (codes "tried") (whole tried)
    (member (codes "variables") (whole variables)
    no_members)))

abbrev pub apart_members : ℕ → Members
apart_members pairs =
    member (codes "kind") (string (codes "apart"))
    (member (codes "pairs") (whole pairs)
    no_members)

-- a row with two accesses
abbrev pub row_data : Data → Data → Members → Data
row_data one other behind = object (member (codes "accesses") (array (item one (item other no_items))) behind)

-- the text of a row up to the end of its accesses
abbrev pub accesses_text : Data → Data → List ℕ
accesses_text one other = 123 ∷ (quoted (codes "accesses") ++ 58 ∷ compact_text (array (item one (item other no_items))))

-- an access with this event and location
pub data IsAccess : ℕ → List ℕ → Data → Type 0 where
  access : (event : ℕ) (holds : List (List ℕ)) (location operation thread variable : List ℕ) → event < 2 ^ 64
      → IsAccess event location (access_data event holds location operation thread variable)

-- the text begins with an access, which has these facts, and `behind` is what follows it
abbrev pub IsAccessOn : List ℕ → Access → List ℕ → Type 0
IsAccessOn text a behind = (d : Data) × IsAccess a.event a.location.now d × (text ≡ compact_text d ++ behind)

-- the same for a row that begins with two accesses
abbrev pub AreAccessesOn : List ℕ → Access → Access → List ℕ → Type 0
AreAccessesOn text a b behind =
    (one other : Data) × IsAccess a.event a.location.now one × IsAccess b.event b.location.now other
    × (text ≡ accesses_text one other ++ behind)

-- the members after the accesses, for a row with this rank and size
pub data IsOutcome : ℕ → ℕ → Members → Type 0 where
  race : (events : ℕ) (how : List ℕ) (pairs threads variables : ℕ) → is_how how ≡ true → events < 2 ^ 64 → pairs < 2 ^ 64 → threads < 2 ^ 64 → variables < 2 ^ 64
      → IsOutcome 0 events (race_members events how pairs threads variables)
  undecided : (pairs tried variables : ℕ) → pairs < 2 ^ 64 → tried < 2 ^ 64 → variables < 2 ^ 64 → IsOutcome 1 0 (undecided_members pairs tried variables)
  apart : (pairs : ℕ) → pairs < 2 ^ 64 → IsOutcome 2 0 (apart_members pairs)

-- the text is the rest of a row with this rank and size
abbrev pub HasOutcome : List ℕ → ℕ → ℕ → Type 0
HasOutcome text rank size = (ms : Members) × IsOutcome rank size ms × (text ≡ members_text true ms)

-- the text begins with the rest of a list of names, and `behind` is what follows it
abbrev pub AreNamesOn : Bool → List ℕ → List ℕ → Type 0
AreNamesOn later text behind = (names : List (List ℕ)) × (text ≡ items_text later (strings names) ++ behind)

-- the text begins with the last three members of an access, and `behind` is what follows them
abbrev pub IsAccessEndOn : List ℕ → List ℕ → Type 0
IsAccessEndOn text behind = (o t v : List ℕ) × (text ≡ members_text true (names_members o t v) ++ behind)
