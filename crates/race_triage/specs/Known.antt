-- The races that a text names, and their pairs of locations. All notions here are this project's own.
use Rattle.std.specs.Prelude.{◌≡◌, ◌↔◌, ◌⊎◌, ◌&&◌, ◌<◌, ◌≤◌, ℕ, nat_eq, not, min, max, Bool, true, List, ◌∷◌, ◌++◌, filter, length, slice_get, slice_index, Contains, Vec, Some, codes}
use Rattle.std.specs.List.{after_first, before_first, list_any, slice_split, starts_with}
use Rattle.std.specs.declared.alloc.Global.{Global}
use Rattle.indexmap.specs.IndexSet.{IndexSet, keys}
use Rattle.rapid_text.specs.Reading.{is_bar, is_line_feed, trimmed}
use Rattle.rapid_text.specs.Recording.{Recording}
use Rattle.race_groups.specs.least_pairs.Pairs.{AreAt}
use Rattle.race_triage.specs.Chosen.{is_known}
use Rattle.race_triage.specs.Places.{AreSpotsOf, IsSpot}
use Rattle.race_triage.specs.declared.places.Places.{Places}
use Rattle.race_triage.specs.declared.verdicts.Verdict.{Verdict}

-- the first line of a `race` block
abbrev pub is_head : List ℕ → Bool
is_head line = starts_with nat_eq line (codes "race ")

-- the line of an access: it begins with exactly two blanks
abbrev pub is_access : List ℕ → Bool
is_access line = starts_with nat_eq line (codes "  ") && not (starts_with nat_eq line (codes "   "))

-- the access lines up to the next `race` block
abbrev pub accesses_in : List (List ℕ) → List (List ℕ)
accesses_in lines = filter is_access (before_first is_head lines)

-- The location of a line is the text after its second bar, without blanks at its ends. A line with fewer than two
-- bars has none.
abbrev pub IsLocation : List ℕ → List ℕ → Type 0
IsLocation line location =
    let behind = after_first is_bar (trimmed line) in
    (list_any is_bar behind ≡ true) × (location ≡ trimmed (after_first is_bar behind))

-- these are the first two access lines
abbrev pub AreFirstTwo : List (List ℕ) → List ℕ → List ℕ → Type 0
AreFirstTwo lines one other = (more : List (List ℕ)) × (accesses_in lines ≡ one ∷ other ∷ more)

-- The lines have a `race` block with these two accesses: the first two access lines after the block's first line.
pub record IsBlock (lines : List (List ℕ)) (one other : List ℕ) : Type 0 where
  pub before : List (List ℕ)
  pub head : List ℕ
  pub behind : List (List ℕ)
  pub whole : lines ≡ before ++ head ∷ behind
  pub race : is_head head ≡ true
  pub accesses : AreFirstTwo behind one other

-- the text has a `race` block with two accesses
abbrev pub HasBlock : List ℕ → Type 0
HasBlock text = (one other : List ℕ) × IsBlock (slice_split is_line_feed text) one other

-- A `race` block of the text names these two locations, the location of its first access first.
abbrev pub NamesRace : List ℕ → List ℕ → List ℕ → Type 0
NamesRace text x y =
    (one other : List ℕ) × IsBlock (slice_split is_line_feed text) one other × IsLocation one x × IsLocation other y

-- The two locations have these numbers, the lesser first.
abbrev pub ArePlaces : List (Vec ℕ Global) → List ℕ → List ℕ → ℕ → ℕ → Type 0
ArePlaces keys x y p q = (m n : ℕ) × IsSpot keys x m × IsSpot keys y n × (p ≡ min m n) × (q ≡ max m n)

-- These are exactly the pairs of locations that the text names.
abbrev pub AreKnown : List (Vec ℕ Global) → List ℕ → List (ℕ × ℕ) → Type 0
AreKnown keys text pairs =
    (p q : ℕ) → Contains pairs (p, q) ↔ ((x y : List ℕ) × NamesRace text x y × ArePlaces keys x y p q)

-- Take a verdict whose two events are at its two locations. It is known only if the text names the two locations, in
-- either order.
abbrev pub OnlyNamed : Recording → List ℕ → List ℕ → List (ℕ × ℕ) → Type 0
OnlyNamed r numbers text pairs =
    (v : Verdict) (x y : List ℕ) → v.first < length r.events → v.second < length r.events
    → slice_get r.locations v.first ≡ Some x → slice_get r.locations v.second ≡ Some y
    → AreAt (slice_index numbers) v.row.places v.first v.second → is_known (Some pairs) v ≡ true → NamesRace text x y ⊎ NamesRace text y x

-- Take a verdict whose two events are at its two locations, the lesser number first. It is known if the text names
-- the two locations, in either order.
abbrev pub AllNamed : Recording → List ℕ → List ℕ → List (ℕ × ℕ) → Type 0
AllNamed r numbers text pairs =
    (v : Verdict) (x y : List ℕ) → v.first < length r.events → v.second < length r.events
    → slice_get r.locations v.first ≡ Some x → slice_get r.locations v.second ≡ Some y
    → v.row.places.0 ≤ v.row.places.1 → AreAt (slice_index numbers) v.row.places v.first v.second
    → NamesRace text x y ⊎ NamesRace text y x → is_known (Some pairs) v ≡ true

-- the same, of the locations of a report
abbrev pub AreKnownIn : {S : Type 0} → Places → List ℕ → IndexSet (ℕ × ℕ) S → Type 0
AreKnownIn p text known = AreKnown p.locations.keys text (keys known)

-- if these are the locations of a trace, a verdict on the trace is known only if the text names its two locations
abbrev pub AreOnlyNamed : {S : Type 0} → Places → List ℕ → IndexSet (ℕ × ℕ) S → Type 0
AreOnlyNamed p text known = (r : Recording) → AreSpotsOf r p → OnlyNamed r p.numbers.items text (keys known)

-- and it is known if the text names them
abbrev pub AreAllNamed : {S : Type 0} → Places → List ℕ → IndexSet (ℕ × ℕ) S → Type 0
AreAllNamed p text known = (r : Recording) → AreSpotsOf r p → AllNamed r p.numbers.items text (keys known)
