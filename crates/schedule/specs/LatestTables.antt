-- The entries of the table of latest events. No public clause cites this module.
use Rattle.std.specs.Prelude.{◌≡◌, ℕ, List, Option, Some, None, slice_get, slice_set, if◌then◌else◌}
use Rattle.std.specs.HashMap.{get}
use Rattle.std.specs.Map.{lookup}
use Rattle.schedule.specs.Keys.{key_eq}
use Rattle.schedule.specs.declared.latest.Key.{Key}
use Rattle.schedule.specs.declared.latest.Latest.{Latest}
use Rattle.schedule.specs.declared.latest_table.LatestTable.{LatestTable}

-- the list's entry of a key if the key is in the list, and otherwise the map's
abbrev pub held_or : Option (Option Latest) → Option Latest → Option Latest
held_or None o = o
held_or (Some m) o = m

-- the table's entry of the key
abbrev pub held : LatestTable → Key → Option Latest
held t q = held_or (lookup (key_eq q) t.near.items) (get key_eq t.far q)

-- the entry after a change, if there was an entry
abbrev pub changed : Option Latest → Option Latest → Option Latest
changed latest None = None
changed latest (Some m) = latest

-- The key is at index i of the list. A look-up of the key finds the entry there, and an entry that is put there is
-- what a look-up finds afterwards.
pub record IsPlaceOf (near : List (Key × Option Latest)) (k : Key) (i : ℕ) : Type 0 where
  pub kept : Option Latest
  pub there : slice_get near i ≡ Some (k, kept)
  pub found : lookup (key_eq k) near ≡ Some kept
  pub placed : (v : Option Latest) (q : Key)
      → lookup (key_eq q) (slice_set near i (k, v)) ≡ (if key_eq k q then Some v else lookup (key_eq q) near)

-- the table has the new entry of the key, and the same entries of the other keys
abbrev pub SetsLatest : LatestTable → LatestTable → Key → Option Latest → Type 0
SetsLatest old new key latest = (q : Key) → held new q ≡ (if key_eq key q then latest else held old q)

-- the same for two look-up functions
abbrev pub SetsFound : (Key → Option Latest) → (Key → Option Latest) → Key → Option Latest → Type 0
SetsFound old new key latest = (q : Key) → new q ≡ (if key_eq key q then latest else old q)
