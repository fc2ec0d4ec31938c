-- The locations of events, by their numbers. `r` is the recording of a trace.
use Rattle.std.specs.Prelude.{◌≡◌, ◌↔◌, ℕ, ◌<◌, nat_eq, cond, map, take, List, [], ◌∷◌, ◌++◌, Some, Vec, length, slice_get, slice_index}
use Rattle.std.specs.List.{fold, list_any, position_or_len}
use Rattle.std.specs.Cmp.Lexicographic.{pointwise}
use Rattle.std.specs.declared.alloc.Global.{Global}
use Rattle.rapid_text.specs.Recording.{Recording}
use Rattle.race_triage.specs.declared.places.Places.{Places}

-- Each event has a number. Two events have the same number exactly if their locations are equal, byte by byte.
pub record AreNumbers (r : Recording) (numbers : List ℕ) : Type 0 where
  pub len : length numbers ≡ length r.events
  pub same : (d e : ℕ) → d < length r.events → e < length r.events
      → (slice_index numbers d ≡ slice_index numbers e) ↔ (slice_get r.locations d ≡ slice_get r.locations e)

-- n is the index at which the text first occurs in the set
abbrev pub IsSpot : List (Vec ℕ Global) → List ℕ → ℕ → Type 0
IsSpot keys name n = (position_or_len (λ v. pointwise nat_eq name v.items) keys ≡ n) × (n < length keys)

-- each text keeps its index
abbrev pub AreKept : List (Vec ℕ Global) → List (Vec ℕ Global) → Type 0
AreKept old new = (name : List ℕ) (k : ℕ) → IsSpot old name k → IsSpot new name k

-- Each of the first n events has the number of its location in the set.
pub record AreNumbered (r : Recording) (n : ℕ) (keys : List (Vec ℕ Global)) (numbers : List ℕ) : Type 0 where
  pub len : length numbers ≡ n
  pub spots : (e : ℕ) (name : List ℕ) → e < n → slice_get r.locations e ≡ Some name → IsSpot keys name (slice_index numbers e)

-- the texts, with one more if it is new
abbrev pub with_text : List (List ℕ) → List ℕ → List (List ℕ)
with_text texts name = cond (list_any (pointwise nat_eq name) texts) texts (texts ++ name ∷ [])

-- the different texts of a list, in the order of their first use
abbrev pub first_uses : List (List ℕ) → List (List ℕ)
first_uses names = fold with_text [] names

-- the texts of a set, in the order of their numbers
abbrev pub texts_of : List (Vec ℕ Global) → List (List ℕ)
texts_of keys = map (λ (v : Vec ℕ Global). v.items) keys

-- The set has the locations of the first n events, in the order of their first use. So the trace alone decides which
-- number a location has.
abbrev pub AreFirstUses : Recording → ℕ → List (Vec ℕ Global) → Type 0
AreFirstUses r n keys = texts_of keys ≡ first_uses (take n r.locations)

-- each event of the trace has the number of its location
abbrev pub AreSpotsOf : Recording → Places → Type 0
AreSpotsOf r p = AreNumbered r (length r.events) p.locations.keys p.numbers.items

-- the locations of the trace have their numbers in the order of their first use
abbrev pub AreFirstUsesOf : Recording → Places → Type 0
AreFirstUsesOf r p = AreFirstUses r (length r.events) p.locations.keys

-- the location has this number
abbrev pub IsSpotIn : Places → List ℕ → ℕ → Type 0
IsSpotIn p name n = IsSpot p.locations.keys name n

-- the location has no number
abbrev pub HasNoSpot : Places → List ℕ → Type 0
HasNoSpot p name = (n : ℕ) → ¬ IsSpotIn p name n

-- the texts of the new set are those of the old one, with this one if it is new
abbrev pub AreTextsWith : List (Vec ℕ Global) → List (Vec ℕ Global) → List ℕ → Type 0
AreTextsWith old new name = texts_of new ≡ with_text (texts_of old) name
