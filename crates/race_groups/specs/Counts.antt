-- The counts of a trace's conflicting pairs below its cuts. `T` is the events of a trace; `place` has the place of
-- each event, `classes` and `infos` its class, and `lists` the locks of each class.
use Rattle.std.specs.Prelude.{◌≡◌, ℕ, ◌+◌, ◌*◌, ◌≤◌, ◌&&◌, Bool, true, List, Vec, length}
use Rattle.std.specs.declared.alloc.Global.{Global}
use Rattle.rapid_text.specs.declared.event.Event.{Event}
use Rattle.event_index.specs.Lookups.{count_before}
use Rattle.indexmap.specs.IndexMap.{IndexMap}
use Rattle.must_order.specs.MustBefore.{IsForced}
use Rattle.race_groups.specs.Classes.{is_kept_pair}
use Rattle.race_groups.specs.Cuts.{IsCutOf, is_cut_off}
use Rattle.race_groups.specs.Ends.{IsKnownBefore, known_before}
use Rattle.race_groups.specs.Groups.{count_of, group_of}
use Rattle.race_groups.specs.Rows.{Part, of_all, of_candidates, of_ordered, of_guarded, count_at, AreRows}
use Rattle.race_groups.specs.Shared.{is_sharing}
use Rattle.race_groups.specs.declared.class.Class.{Class}
use Rattle.race_groups.specs.declared.classes.Classes.{Classes}
use Rattle.race_groups.specs.declared.rows.Sums.{Sums}

-- whether a part counts a pair whose classes have a common lock, or have none
abbrev pub is_counted : Part → Bool → Bool
is_counted of_all shared = true
is_counted of_candidates shared = true
is_counted of_ordered shared = true
is_counted of_guarded shared = shared

-- whether the part counts pairs of the two classes
abbrev pub keeps : List (Vec ℕ Global) → Part → Class → Class → Bool
keeps lists k i j = is_counted k (is_sharing lists i.held j.held)

-- the pair is below the ends, and the part counts pairs of its classes
abbrev pub is_below : List Event → List ℕ → List Class → List (Vec ℕ Global) → Part → (ℕ → ℕ → ℕ) → ℕ × ℕ → Bool
is_below T classes infos lists k end e = is_cut_off T end e.0 e.1 && is_kept_pair (keeps lists k) classes infos e.0 e.1

-- n is the number of pairs of the part below the upper ends minus the number below the lower ends
abbrev pub IsMore : List Event → (ℕ → ℕ) → List ℕ → List Class → List (Vec ℕ Global) → Part → (ℕ → ℕ → ℕ) → (ℕ → ℕ → ℕ) → ℕ → ℕ → ℕ → Type 0
IsMore T place classes infos lists k lower upper p q n =
    n + count_of T place (is_below T classes infos lists k lower) p q ≡ count_of T place (is_below T classes infos lists k upper) p q

-- All conflicting pairs are counted twice. The other parts count the pairs below one cut that are not below the next.
pub record AreCounted {S : Type 0} (T : List Event) (place : ℕ → ℕ) (classes : List ℕ) (infos : List Class) (lists : List (Vec ℕ Global)) (rows : IndexMap (ℕ × ℕ) Sums S) : Type 0 where
  pub are : AreRows rows
  -- the ends of the cut of forced pairs
  pub ends : ℕ → ℕ → ℕ
  pub all : (p q : ℕ) → p ≤ q → count_at of_all rows p q ≡ 2 * length (group_of T place p q)
  pub candidates : (p q : ℕ) → p ≤ q
      → IsMore T place classes infos lists of_candidates (known_before T) (count_before T) p q (count_at of_candidates rows p q)
  pub ordered : (p q : ℕ) → p ≤ q → IsMore T place classes infos lists of_ordered ends (known_before T) p q (count_at of_ordered rows p q)
  pub guarded : (p q : ℕ) → p ≤ q → IsMore T place classes infos lists of_guarded ends (known_before T) p q (count_at of_guarded rows p q)
  pub tells_known : IsCutOf T (IsKnownBefore T) (known_before T)
  pub tells_forced : IsCutOf T (IsForced T) ends

-- the same with the classes as one table
abbrev pub AreCountedBy : {S : Type 0} → List Event → (ℕ → ℕ) → Classes → IndexMap (ℕ × ℕ) Sums S → Type 0
AreCountedBy T place classes = AreCounted T place classes.numbers.items classes.infos.items classes.lists.keys
