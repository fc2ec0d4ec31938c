-- What is added to rows, class by class. No public clause cites this module.
use Rattle.std.specs.Prelude.{◌≡◌, ℕ, ◌+◌, ◌^◌, ◌<◌, ◌≤◌, List, sum_by, if◌then◌else◌, length, slice_get, Some, Vec}
use Rattle.std.specs.declared.alloc.Global.{Global}
use Rattle.indexmap.specs.IndexMap.{IndexMap}
use Rattle.event_index.specs.Lookups.{before}
use Rattle.race_groups.specs.Basis.{loose_of}
use Rattle.race_groups.specs.Classes.{adds_to}
use Rattle.race_groups.specs.Counts.{keeps}
use Rattle.race_groups.specs.Rows.{Part, amount, count_at}
use Rattle.race_groups.specs.declared.class.Class.{Class}
use Rattle.race_groups.specs.declared.classes.Classes.{Classes}
use Rattle.race_groups.specs.declared.rows.Sums.{Sums}
use Rattle.race_groups.specs.declared.shares.Loose.{Loose}
use Rattle.race_groups.specs.declared.shares.Share.{Share}

-- the amount n, if the events of the class with this number clash with those of class j and the places are p and q;
-- otherwise 0
abbrev pub added_of : Classes → Class → Part → ℕ → ℕ → ℕ → ℕ → ℕ
added_of classes j k p q c n = if adds_to (keeps classes.lists.keys k) p q j (slice_get classes.infos.items c) then n else 0

-- a class's share, as far as the part counts pairs of the two classes
abbrev pub kept_share : List (Vec ℕ Global) → Class → Class → Share → Part → ℕ
kept_share lists i j share k = if keeps lists k i j then amount k share else 0

-- the share, where the two classes clash, their places are p and q, and the part counts their pairs
abbrev pub class_share : List (Vec ℕ Global) → Class → Class → Share → Part → ℕ → ℕ → ℕ
class_share lists i j share k p q = if adds_to (keeps lists k) p q j (Some i) then amount k share else 0

-- the same for the class with this number
abbrev pub numbered_share : Classes → ℕ → Class → Share → Part → ℕ → ℕ → ℕ
numbered_share classes c j share k p q = added_of classes j k p q c (amount k share)

-- each part grows by what these classes add
abbrev pub AreGrown : {S : Type 0} → Classes → Class → (Part → ℕ → ℕ) → List ℕ → IndexMap (ℕ × ℕ) Sums S → IndexMap (ℕ × ℕ) Sums S → Type 0
AreGrown classes j amounts members old new =
    (k : Part) (p q : ℕ) → p ≤ q
    → count_at k new p q ≡ count_at k old p q + sum_by (λ c. added_of classes j k p q c (amounts k c)) members

-- there is room for what these classes add
abbrev pub HasRoomFor : {S : Type 0} → (Part → ℕ → ℕ) → List ℕ → IndexMap (ℕ × ℕ) Sums S → Type 0
HasRoomFor amounts members rows = (k : Part) (p q : ℕ) → p ≤ q → count_at k rows p q + sum_by (amounts k) members < 2 ^ 64

-- what each class adds to a part, from the loose pairs
abbrev pub loose_in : Loose → Part → ℕ → ℕ
loose_in loose = loose_of loose.earlier.now loose.known.now loose.forced.now

-- each part grows by the loose pairs of the class with all classes
abbrev pub AreLooseAdded : {S : Type 0} → Classes → Class → Loose
    → IndexMap (ℕ × ℕ) Sums S → IndexMap (ℕ × ℕ) Sums S → Type 0
AreLooseAdded classes later loose = AreGrown classes later (loose_in loose) (before (length classes.infos.items))
