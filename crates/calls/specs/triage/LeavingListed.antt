-- Which races a text of known races names. All notions here are this project's own.
use Rattle.std.specs.Prelude.{◌≡◌, ◌⊎◌, ◌&&◌, ℕ, nat_eq, nat_lt, length, min, max, Bool, true, false, List, [], ◌∷◌, Vec, Option, Some, None, ⊤}
use Rattle.std.specs.List.{list_any, position_or_len}
use Rattle.std.specs.Cmp.Lexicographic.{pointwise}
use Rattle.std.specs.declared.alloc.Global.{Global}
use denote.Ref.{Bor}
use Rattle.indexmap.specs.IndexSet.{keys}
use Rattle.race_groups.specs.Rows.{same_places}
use Rattle.race_parts.specs.declared.cells.Cell.{Cell}
use Rattle.race_triage.specs.Known.{NamesRace}
use Rattle.race_triage.specs.Places.{IsSpot}
use Rattle.calls.specs.declared.triage.leaving.listed.Listed.{Listed}

-- the text names the two locations of the cell, in one order or the other
abbrev pub IsNamed : List ℕ → Cell → Type 0
IsNamed text c = NamesRace text c.first.now c.second.now ⊎ NamesRace text c.second.now c.first.now

-- The test passes on a cell exactly if the text names its two locations.
pub record IsRight (text : List ℕ) (listed : Cell → Bool) (c : Cell) : Type 0 where
  pub named : listed c ≡ true → IsNamed text c
  pub all_named : IsNamed text c → listed c ≡ true

-- it is so on each of the cells
abbrev pub AreListed : List ℕ → (Cell → Bool) → List Cell → Type 0
AreListed text listed [] = ⊤
AreListed text listed (c ∷ cs) = IsRight text listed c × AreListed text listed cs

-- the number of a location among these
abbrev pub number_in : List (Vec ℕ Global) → List ℕ → ℕ
number_in ks name = position_or_len (λ v. pointwise nat_eq name v.items) ks

-- the location has a number
abbrev pub HasNumber : List (Vec ℕ Global) → List ℕ → Type 0
HasNumber ks name = (n : ℕ) × IsSpot ks name n

-- both locations of the cell have numbers
abbrev pub HasPlaces : List (Vec ℕ Global) → Cell → Type 0
HasPlaces ks c = HasNumber ks c.first.now × HasNumber ks c.second.now

abbrev pub HaveAllPlaces : List (Vec ℕ Global) → List Cell → Type 0
HaveAllPlaces ks [] = ⊤
HaveAllPlaces ks (c ∷ cs) = HasPlaces ks c × HaveAllPlaces ks cs

-- these pairs of numbers have that of the cell's two locations, the lesser first
abbrev pub has_pair : List (ℕ × ℕ) → ℕ → ℕ → Bool
has_pair pairs m n = list_any (same_places (min m n, max m n)) pairs

-- whether the location is one of these
abbrev pub is_numbered : List (Vec ℕ Global) → List ℕ → Bool
is_numbered ks name = nat_lt (number_in ks name) (length ks)

-- both locations of the cell are, and the pairs have theirs
abbrev pub in_pairs : List (Vec ℕ Global) → List (ℕ × ℕ) → Cell → Bool
in_pairs ks pairs c =
    (is_numbered ks c.first.now && is_numbered ks c.second.now)
    && has_pair pairs (number_in ks c.first.now) (number_in ks c.second.now)

abbrev pub is_listed : Listed → Cell → Bool
is_listed l c = in_pairs (keys l.places.locations) (keys l.known) c

-- the same, if there is a text
abbrev pub is_listed_by : Option (Bor Listed) → Cell → Bool
is_listed_by None c = false
is_listed_by (Some l) c = is_listed l.now c
