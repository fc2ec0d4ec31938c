-- What remembered candidates mean. No public clause cites this module.
use Rattle.std.specs.Prelude.{◌≡◌, ℕ, ◌<◌, ◌≤◌, All, Contains, List, slice_index}
use Rattle.race_groups.specs.least_pairs.Going.{HasCandidate}
use Rattle.race_groups.specs.least_pairs.Pairs.{IsPair}
use Rattle.race_groups.specs.declared.least_pairs.least.Least.{Least}
use Rattle.race_groups.specs.declared.least_pairs.leasts.Search.{Search}
use Rattle.race_groups.specs.declared.least_pairs.noted.Note.{Note}
use Rattle.race_groups.specs.declared.least_pairs.noted.Noted.{Noted}

-- an empty note: its variable is 0, and no event comes after its later event
abbrev pub IsNothing : Note → Type 0
IsNothing n = (n.variable ≡ 0) × (n.later ≡ 4294967295)

-- If the note is of variable x, each pair of its places whose later event comes after the note's is held.
pub record IsTrueNote (s : Search) (x : ℕ) (leasts : List Least) (n : Note) : Type 0 where
  pub reached : n.variable ≤ x
  pub held :
      n.variable ≡ x → (a b : ℕ) → IsPair s.indexed.now.events a b → slice_index s.places.now a ≡ n.first → slice_index s.places.now b ≡ n.second
      → n.later < b → HasCandidate s x leasts a b

abbrev pub AreTrueNotes : Search → ℕ → List Least → Noted → Type 0
AreTrueNotes s x leasts noted = All (IsTrueNote s x leasts) noted.notes.items

-- a note of the variable and the two places whose later event comes before this one
abbrev pub HasNote : Noted → ℕ → ℕ → ℕ → ℕ → Type 0
HasNote noted x first second later =
    (n : Note) × Contains noted.notes.items n × (n.variable ≡ x) × (n.first ≡ first) × (n.second ≡ second)
    × (n.later < later)
