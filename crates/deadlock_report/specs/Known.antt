-- The deadlocks that a text names, by the locations of their requests and holds. All notions here are this project's own.
use Rattle.std.specs.Prelude.{◌≡◌, ◌||◌, ℕ, nat_eq, Bool, cond, List, [], ◌∷◌, ◌++◌, Vec, Option, Some, None, codes}
use Rattle.std.specs.Cmp.Lexicographic.{pointwise}
use Rattle.std.specs.List.{after_first, before_first, filter_map, list_any, slice_split, starts_with}
use Rattle.std.specs.declared.alloc.Global.{Global}
use Rattle.indexmap.specs.IndexSet.{IndexSet, keys}
use denote.Ref.{Bor}
use Rattle.rapid_text.specs.LinesLeft.{lines_left}
use Rattle.rapid_text.specs.Reading.{is_bar, is_line_feed, trimmed}
use Rattle.deadlock_report.specs.declared.known.Block.{Block}

-- the first line of a `deadlock` block
abbrev pub is_head : List ℕ → Bool
is_head line = starts_with nat_eq line (codes "deadlock ")

-- the text after the second bar of a line, without blanks at its ends; None if there are fewer than two bars
abbrev pub location_behind : List ℕ → Option (List ℕ)
location_behind behind = cond (list_any is_bar behind) (Some (trimmed (after_first is_bar behind))) None

abbrev pub location_in : List ℕ → Option (List ℕ)
location_in line = location_behind (after_first is_bar (trimmed line))

-- the locations in the lines up to the next `deadlock` block
abbrev pub locations_in : List (List ℕ) → List (List ℕ)
locations_in lines = filter_map location_in (before_first is_head lines)

-- the key of a pattern: the locations of both holds, each with that of its request behind it
abbrev pub pattern_key : List ℕ → List ℕ → List ℕ → List ℕ → List ℕ
pattern_key hold request other_hold other_request =
    hold ++ codes "\n" ++ request ++ codes "\n" ++ other_hold ++ codes "\n" ++ other_request

-- The keys of a block with these locations, with either thread first. In a block each request comes before its hold.
abbrev pub keys_of : List (List ℕ) → List (List ℕ)
keys_of (q ∷ h ∷ p ∷ g ∷ more) = pattern_key h q g p ∷ pattern_key g p h q ∷ []
keys_of (q ∷ h ∷ p ∷ []) = []
keys_of (q ∷ h ∷ []) = []
keys_of (q ∷ []) = []
keys_of [] = []

-- the keys of all `deadlock` blocks in the lines
unfoldable pub known_keys : List (List ℕ) → List (List ℕ)
known_keys [] = []
known_keys (line ∷ left) = cond (is_head line) (keys_of (locations_in left)) [] ++ known_keys left

-- the text is one of the keys
abbrev pub is_in : List (List ℕ) → List ℕ → Bool
is_in texts key = list_any (pointwise nat_eq key) texts

-- the set has the text
abbrev pub has_key : List (Vec ℕ Global) → List ℕ → Bool
has_key texts key = list_any (λ v. pointwise nat_eq key v.items) texts

-- the set has exactly the keys of the `deadlock` blocks in the text
abbrev pub AreKnown : {S : Type 0} → List ℕ → IndexSet (Vec ℕ Global) S → Type 0
AreKnown text known = (key : List ℕ) → has_key (keys known) key ≡ is_in (known_keys (slice_split is_line_feed text)) key

-- the keys of a block
abbrev pub keys_of_block : Block → List (List ℕ)
keys_of_block b =
    pattern_key b.hold.now b.request.now b.other_hold.now b.other_request.now
    ∷ pattern_key b.other_hold.now b.other_request.now b.hold.now b.request.now
    ∷ []

-- the first location and those in the lines after it, if there is one
abbrev pub locations_found : Option (Bor (List ℕ) × Option (Bor (List ℕ))) → List (List ℕ)
locations_found None = []
locations_found (Some found) = found.0.now ∷ locations_in (lines_left found.1)

-- the keys of a block that was read, if there is one
abbrev pub keys_if : Option Block → List (List ℕ)
keys_if None = []
keys_if (Some b) = keys_of_block b

-- the keys of the block are added
abbrev pub IsNoted : Option Block → List (Vec ℕ Global) → List (Vec ℕ Global) → Type 0
IsNoted block old new = (key : List ℕ) → has_key new key ≡ (is_in (keys_if block) key || has_key old key)

-- one of the block's keys is known
abbrev pub has_block_key : List (Vec ℕ Global) → Block → Bool
has_block_key texts b = list_any (has_key texts) (keys_of_block b)
