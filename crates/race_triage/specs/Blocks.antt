-- Reading a text of known races line by line. No public clause cites this module.
use Rattle.std.specs.Prelude.{◌≡◌, ◌↔◌, ◌⊎◌, ℕ, min, max, List, ◌∷◌, Contains, Vec, Option, Some, None}
use Rattle.std.specs.declared.alloc.Global.{Global}
use denote.Ref.{Bor}
use Rattle.race_triage.specs.Known.{accesses_in, AreFirstTwo, IsBlock, IsLocation}
use Rattle.race_triage.specs.Places.{IsSpot}
use Rattle.race_triage.specs.declared.known.Block.{Block}
use Rattle.race_triage.specs.declared.places.Places.{Places}
use Rattle.race_triage.specs.declared.known.Block.TheVariants.{Nothing, Race, First}

-- one is the first access line in `lines`
abbrev pub IsNext : List (List ℕ) → List ℕ → Type 0
IsNext lines one = (more : List (List ℕ)) × (accesses_in lines ≡ one ∷ more)

-- Two accesses of one block, the second of which is in these lines. The block is the one being read, or a later one.
abbrev pub IsAhead : Block → List (List ℕ) → List ℕ → List ℕ → Type 0
IsAhead Nothing lines one other = IsBlock lines one other
IsAhead Race lines one other = AreFirstTwo lines one other ⊎ IsBlock lines one other
IsAhead (First line) lines one other = ((line.now ≡ one) × IsNext lines other) ⊎ IsBlock lines one other

-- these two lines are returned
abbrev pub IsTold : Option (Bor (List ℕ) × Bor (List ℕ)) → List ℕ → List ℕ → Type 0
IsTold None one other = ⊥
IsTold (Some lines) one other = (lines.0.now ≡ one) × (lines.1.now ≡ other)

-- The step reads one more line. Two accesses are returned now, or are still ahead, exactly if they were ahead before
-- it.
abbrev pub IsRead : Block → List ℕ → Block → Option (Bor (List ℕ) × Bor (List ℕ)) → Type 0
IsRead block line next told =
    (left : List (List ℕ)) (one other : List ℕ) → IsAhead block (line ∷ left) one other ↔ (IsTold told one other ⊎ IsAhead next left one other)

-- the number of the location in the line
abbrev pub IsPlace : List (Vec ℕ Global) → List ℕ → ℕ → Type 0
IsPlace keys line n = (location : List ℕ) × IsLocation line location × IsSpot keys location n

-- the numbers of the locations in two lines, the lesser first
abbrev pub ArePair : List (Vec ℕ Global) → List ℕ → List ℕ → ℕ → ℕ → Type 0
ArePair keys one other p q = (m n : ℕ) × IsPlace keys one m × IsPlace keys other n × (p ≡ min m n) × (q ≡ max m n)

-- the line's location has no number
abbrev pub HasNoPlace : Places → List ℕ → Type 0
HasNoPlace places line = (n : ℕ) → ¬ IsPlace places.locations.keys line n

-- one of the two lines has a location without a number
abbrev pub HaveNoPair : Places → List ℕ → List ℕ → Type 0
HaveNoPair places one other = (p q : ℕ) → ¬ ArePair places.locations.keys one other p q

-- The pair of locations is added if two lines are returned and the trace has both locations.
abbrev pub IsNoted : List (Vec ℕ Global) → Option (Bor (List ℕ) × Bor (List ℕ)) → List (ℕ × ℕ) → List (ℕ × ℕ) → Type 0
IsNoted keys told old new =
    (p q : ℕ) → Contains new (p, q) ↔ (Contains old (p, q) ⊎ ((one other : List ℕ) × IsTold told one other × ArePair keys one other p q))

-- What is known after all lines but these have been read.
pub record IsReadUpTo (keys : List (Vec ℕ Global)) (all left : List (List ℕ)) (block : Block) (known : List (ℕ × ℕ)) : Type 0 where
  pub ahead : (one other : List ℕ) → IsAhead block left one other → IsBlock all one other
  pub found : (one other : List ℕ) → IsBlock all one other
      → IsAhead block left one other ⊎ ((p q : ℕ) → ArePair keys one other p q → Contains known (p, q))
  pub named : (p q : ℕ) → Contains known (p, q) → (one other : List ℕ) × IsBlock all one other × ArePair keys one other p q

-- No block has ended yet: the blocks ahead are all blocks of the text.
abbrev pub AreAhead : List (List ℕ) → List (List ℕ) → Block → Type 0
AreAhead all left block = (one other : List ℕ) → IsAhead block left one other ↔ IsBlock all one other
