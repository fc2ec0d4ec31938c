-- The tables from which the pairs of a trace are counted, and what holds for them. No public clause cites this
-- module.
use Rattle.std.specs.Prelude.{◌≡◌, ℕ, ◌+◌, ◌-◌, ◌^◌, ◌<◌, ◌≤◌, All, Bool, List, length, slice_index, slice_index_or, sum_by, Result, Err, IfOk}
use Rattle.indexmap.specs.IndexMap.{IndexMap, index_map_len}
use Rattle.rapid_text.specs.Recording.{IsWellFormed}
use Rattle.event_index.specs.Lookups.{before, count_before, events_of}
use Rattle.must_order.specs.MustBefore.{IsForced}
use Rattle.shb_clocks.specs.SharedRows.{len_of}
use Rattle.race_groups.specs.Classes.{AreMembers}
use Rattle.race_groups.specs.Counting.{AreCuts, AreFrontsAt, AreMoved, IsBlank, below_sum, class_sum, flagged_class, flagged_sum, later_count, thread_sum, threads_sum, total_ends, unflagged_count}
use Rattle.race_groups.specs.Counts.{keeps}
use Rattle.race_groups.specs.Cuts.{IsCutOf}
use Rattle.race_groups.specs.Ends.{IsKnownBefore, counted_before, known_before, lower_of, upper_of}
use Rattle.race_groups.specs.Owners.{AreConflicts}
use Rattle.race_groups.specs.Found.{AreTooMany}
use Rattle.race_groups.specs.Rows.{Part, by_part, count_at, AreMore, AreRows}
use Rattle.race_groups.specs.Totals.{total_sum}
use Rattle.race_groups.specs.Turns.{in_turn, turns_of}
use Rattle.race_groups.specs.declared.basis.Basis.{Basis}
use Rattle.race_groups.specs.declared.below.Below.{Below}
use Rattle.race_groups.specs.declared.class.Class.{Class}
use Rattle.race_groups.specs.declared.counting.Front.{Front}
use Rattle.race_groups.specs.declared.fronts.Fronts.{Fronts}
use Rattle.race_groups.specs.declared.rows.RowsRefusal.{RowsRefusal}
use Rattle.race_groups.specs.declared.rows.RowsRefusal.TheVariants.{TooMany}
use Rattle.race_groups.specs.declared.rows.Sums.{Sums}

-- All tables are of one trace.
pub record IsBasis (b : Basis) : Type 0 where
  pub clocks : b.clocks.now ≡ b.indexed.now
  pub width : b.forced.now.width ≡ length b.indexed.now.threads
  pub len : len_of b.forced.now ≡ length b.indexed.now.events
  pub formed : IsWellFormed b.indexed.now
  pub cuts : AreCuts b.indexed.now.events b.forced.now
  pub known : IsCutOf b.indexed.now.events (IsKnownBefore b.indexed.now.events) (known_before b.indexed.now.events)
  pub must : IsCutOf b.indexed.now.events (IsForced b.indexed.now.events) (counted_before b.forced.now b.indexed.now.events)
  pub turns : 0 < b.every
  pub numbers : length b.classes.now.numbers.items ≡ length b.indexed.now.events
  pub classes : All (λ c. c < length b.classes.now.infos.items) b.classes.now.numbers.items
  pub few : length b.classes.now.infos.items ≤ 1048576
  pub members : AreMembers b.classes.now.infos.items b.classes.now.members.items
  pub conflicts :
      AreConflicts b.indexed.now.events (length b.indexed.now.threads) b.classes.now.numbers.items b.classes.now.infos.items b.classes.now.members.items
      b.conflicts.now

-- the fronts of the three cuts before event i of thread u's events
abbrev pub AreFrontsBefore : Basis → ℕ → ℕ → Fronts → Type 0
AreFrontsBefore b u i fronts =
    AreFrontsAt b.indexed.now.events (length b.indexed.now.threads) (length b.classes.now.infos.items) b.classes.now.numbers.items u b.forced.now i fronts

-- the fronts of the three cuts are the ends of the event at index i of thread u
abbrev pub AreMovedTo : Basis → ℕ → ℕ → Fronts → Type 0
AreMovedTo b u i =
    AreMoved b.indexed.now.events (length b.indexed.now.threads) u b.forced.now
    (slice_index (events_of b.indexed.now.events u) i)

-- the number of pairs that event e of thread u has below a cut, among those that are kept and between two places
abbrev pub later_of : Basis → ℕ → ℕ → (Class → Class → Bool) → (ℕ → ℕ → ℕ) → ℕ → ℕ → ℕ
later_of b u e keep end p q = later_count b.indexed.now.events keep b.classes.now.numbers.items b.classes.now.infos.items u end p q e

-- the same, or 0 if the event is of a flagged class
abbrev pub unflagged_of : Basis → ℕ → List ℕ → ℕ → (Class → Class → Bool) → (ℕ → ℕ → ℕ) → ℕ → ℕ → ℕ
unflagged_of b u flags e keep end p q = unflagged_count b.indexed.now.events keep b.classes.now.numbers.items b.classes.now.infos.items u end p q flags e

-- the same for all events of thread u that are of class c
abbrev pub class_of : Basis → ℕ → ℕ → (Class → Class → Bool) → (ℕ → ℕ → ℕ) → ℕ → ℕ → ℕ
class_of b u c keep end p q = class_sum b.indexed.now.events keep b.classes.now.numbers.items b.classes.now.infos.items u end p q c

-- the same, or 0 if the class is not flagged
abbrev pub flagged_of : Basis → ℕ → List ℕ → ℕ → (Class → Class → Bool) → (ℕ → ℕ → ℕ) → ℕ → ℕ → ℕ
flagged_of b u flags c keep end p q = flagged_class b.indexed.now.events keep b.classes.now.numbers.items b.classes.now.infos.items u end p q flags c

-- the same for the first n classes
abbrev pub all_flagged : Basis → ℕ → List ℕ → ℕ → (Class → Class → Bool) → (ℕ → ℕ → ℕ) → ℕ → ℕ → ℕ
all_flagged b u flags n keep end p q = flagged_sum b.indexed.now.events keep b.classes.now.numbers.items b.classes.now.infos.items u end p q flags n

-- the same for all events of thread u
abbrev pub thread_of : Basis → ℕ → (Class → Class → Bool) → (ℕ → ℕ → ℕ) → ℕ → ℕ → ℕ
thread_of b u keep end p q = thread_sum b.indexed.now.events keep b.classes.now.numbers.items b.classes.now.infos.items end p q u

-- Each part grows by what is below its upper cut and not below its lower one.
abbrev pub AreAdded : {S : Type 0} → Basis → ((Class → Class → Bool) → (ℕ → ℕ → ℕ) → ℕ → ℕ → ℕ) → IndexMap (ℕ × ℕ) Sums S → IndexMap (ℕ × ℕ) Sums S → Type 0
AreAdded b pairs old new =
    (k : Part) (p q : ℕ) → p ≤ q
    → count_at k new p q + pairs (keeps b.classes.now.lists.keys k) (lower_of b.indexed.now.events b.forced.now k) p q
    ≡ count_at k old p q + pairs (keeps b.classes.now.lists.keys k) (upper_of b.indexed.now.events k) p q

-- The same for the event at index i of thread u.
abbrev pub IsLaterAdded : {S : Type 0} → Basis → ℕ → ℕ → IndexMap (ℕ × ℕ) Sums S → IndexMap (ℕ × ℕ) Sums S → Type 0
IsLaterAdded b u i = AreAdded b (later_of b u (slice_index (events_of b.indexed.now.events u) i))

-- The same, unless the event is of a flagged class.
abbrev pub IsLightAdded : {S : Type 0} → Basis → ℕ → ℕ → List ℕ
    → IndexMap (ℕ × ℕ) Sums S → IndexMap (ℕ × ℕ) Sums S → Type 0
IsLightAdded b u i flags = AreAdded b (unflagged_of b u flags (slice_index (events_of b.indexed.now.events u) i))

-- The same for the events of thread u that are of class c, if the class is flagged.
abbrev pub IsFlaggedAdded : {S : Type 0} → Basis → ℕ → List ℕ → ℕ
    → IndexMap (ℕ × ℕ) Sums S → IndexMap (ℕ × ℕ) Sums S → Type 0
IsFlaggedAdded b u flags c = AreAdded b (flagged_of b u flags c)

-- The same for all flagged classes.
abbrev pub AreFlaggedAdded : {S : Type 0} → Basis → ℕ → List ℕ
    → IndexMap (ℕ × ℕ) Sums S → IndexMap (ℕ × ℕ) Sums S → Type 0
AreFlaggedAdded b u flags = AreAdded b (all_flagged b u flags (length b.classes.now.infos.items))

-- Each part grows by at most what is below its upper cut.
abbrev pub AreFew : {S : Type 0} → Basis → ((Class → Class → Bool) → (ℕ → ℕ → ℕ) → ℕ → ℕ → ℕ) → IndexMap (ℕ × ℕ) Sums S → IndexMap (ℕ × ℕ) Sums S → Type 0
AreFew b pairs old new =
    (k : Part) (p q : ℕ) → p ≤ q
    → count_at k new p q ≤ count_at k old p q + pairs (keeps b.classes.now.lists.keys k) (upper_of b.indexed.now.events k) p q

-- There are more than `limit` rows, and no row grew by more pairs than thread u's events have.
abbrev pub AreMoreThan : {S : Type 0} → ℕ → Basis → ℕ → IndexMap (ℕ × ℕ) Sums S → IndexMap (ℕ × ℕ) Sums S → Type 0
AreMoreThan limit b u old new = AreMore limit new × AreFew b (thread_of b u) old new

-- More than `limit` pairs of places have a conflicting pair of events.
abbrev pub AreTooManyIn : Basis → (ℕ → ℕ) → ℕ → Type 0
AreTooManyIn b = AreTooMany b.indexed.now.events

-- all pairs, each counted twice, by the formula over the classes
abbrev pub totals_of : Basis → Part → ℕ → ℕ → ℕ
totals_of b k p q =
    threads_sum b.indexed.now.events (keeps b.classes.now.lists.keys k) b.classes.now.numbers.items b.classes.now.infos.items (total_ends b.indexed.now.events k) p q
    (length b.indexed.now.threads)

-- the same for all events of the first n threads
abbrev pub threads_of : Basis → ℕ → (Class → Class → Bool) → (ℕ → ℕ → ℕ) → ℕ → ℕ → ℕ
threads_of b n keep end p q = threads_sum b.indexed.now.events keep b.classes.now.numbers.items b.classes.now.infos.items end p q n

-- All pairs are counted twice, and also the pairs that events of the first n threads have below one cut and not below
-- the next.
abbrev pub AreSummed : {S : Type 0} → Basis → ℕ → IndexMap (ℕ × ℕ) Sums S → Type 0
AreSummed b n rows =
    (k : Part) (p q : ℕ) → p ≤ q
    → count_at k rows p q + threads_of b n (keeps b.classes.now.lists.keys k) (lower_of b.indexed.now.events b.forced.now k) p q
    ≡ totals_of b k p q + threads_of b n (keeps b.classes.now.lists.keys k) (upper_of b.indexed.now.events k) p q

-- the part of class c in all pairs
abbrev pub total_of : Basis → Part → ℕ → ℕ → ℕ → ℕ
total_of b k p q c =
    total_sum b.indexed.now.events (keeps b.classes.now.lists.keys k) b.classes.now.numbers.items b.classes.now.infos.items (length b.indexed.now.threads)
    (total_ends b.indexed.now.events k) p q c

-- the part of the classes whose turn it is for this worker
abbrev pub totals_in : Basis → ℕ → Part → ℕ → ℕ → ℕ
totals_in b from k p q = turns_of b.every from (total_of b k p q) (length b.classes.now.infos.items)

-- the part of class c, if it is its turn
abbrev pub own_total : Basis → ℕ → Part → ℕ → ℕ → ℕ
own_total b c k p q = in_turn b.every b.from (total_of b k p q) c

-- the part of thread u, if it is its turn
abbrev pub thread_in : Basis → ℕ → ℕ → (Class → Class → Bool) → (ℕ → ℕ → ℕ) → ℕ → ℕ → ℕ
thread_in b from u keep end p q = in_turn b.every from (λ t. thread_of b t keep end p q) u

-- Each part grows by what is below its upper cut and not below its lower one, for thread u, if it is its turn.
abbrev pub IsOwnAdded : {S : Type 0} → Basis → ℕ → IndexMap (ℕ × ℕ) Sums S → IndexMap (ℕ × ℕ) Sums S → Type 0
IsOwnAdded b u = AreAdded b (thread_in b b.from u)

-- the part of the first n threads whose turn it is
abbrev pub threads_in : Basis → ℕ → ℕ → (Class → Class → Bool) → (ℕ → ℕ → ℕ) → ℕ → ℕ → ℕ
threads_in b from n keep end p q = turns_of b.every from (λ t. thread_of b t keep end p q) n

-- A worker has counted its classes, and its threads below n.
abbrev pub AreInTurn : {S : Type 0} → Basis → ℕ → ℕ → IndexMap (ℕ × ℕ) Sums S → Type 0
AreInTurn b from n rows =
    (k : Part) (p q : ℕ) → p ≤ q
    → count_at k rows p q + threads_in b from n (keeps b.classes.now.lists.keys k) (lower_of b.indexed.now.events b.forced.now k) p q
    ≡ totals_in b from k p q + threads_in b from n (keeps b.classes.now.lists.keys k) (upper_of b.indexed.now.events k) p q

-- The same for all its threads.
abbrev pub AreAllInTurn : {S : Type 0} → Basis → ℕ → IndexMap (ℕ × ℕ) Sums S → Type 0
AreAllInTurn b from = AreInTurn b from (length b.indexed.now.threads)

-- The first n workers have counted their classes and threads.
abbrev pub AreJoined : {S : Type 0} → Basis → ℕ → IndexMap (ℕ × ℕ) Sums S → Type 0
AreJoined b n rows =
    (k : Part) (p q : ℕ) → p ≤ q
    → count_at k rows p q
    + sum_by (λ w. threads_in b w (length b.indexed.now.threads) (keeps b.classes.now.lists.keys k) (lower_of b.indexed.now.events b.forced.now k) p q) (before n)
    ≡ sum_by (λ w. totals_in b w k p q) (before n)
    + sum_by (λ w. threads_in b w (length b.indexed.now.threads) (keeps b.classes.now.lists.keys k) (upper_of b.indexed.now.events k) p q) (before n)

-- No count exceeds that of all threads.
abbrev pub AreFewAll : {S : Type 0} → Basis → IndexMap (ℕ × ℕ) Sums S → Type 0
AreFewAll b rows =
    (k : Part) (p q : ℕ) → p ≤ q
    → count_at k rows p q ≤ totals_of b k p q + threads_of b (length b.indexed.now.threads) (keeps b.classes.now.lists.keys k) (upper_of b.indexed.now.events k) p q

-- n may be added to each count
abbrev pub HasRoom : {S : Type 0} → ℕ → IndexMap (ℕ × ℕ) Sums S → Type 0
HasRoom n rows = (k : Part) (p q : ℕ) → p ≤ q → count_at k rows p q + n ≤ 2 ^ 42

-- no event comes before the fronts yet
pub record AreBlank (b : Basis) (below : Below) : Type 0 where
  pub earlier : IsBlank (length b.indexed.now.threads) (length b.classes.now.infos.items) below.earlier
  pub known : IsBlank (length b.indexed.now.threads) (length b.classes.now.infos.items) below.known
  pub forced : IsBlank (length b.indexed.now.threads) (length b.classes.now.infos.items) below.forced

-- Each count is the number of events of a class below the cuts of thread u's events of class j, together.
pub record IsBelow (b : Basis) (u j : ℕ) (end : ℕ → ℕ → ℕ) (front : Front) : Type 0 where
  pub len : length front.counts.items ≡ length b.classes.now.infos.items
  pub counted : (c : ℕ) → c < length b.classes.now.infos.items → slice_index front.counts.items c
      ≡ below_sum b.indexed.now.events (length b.indexed.now.threads) b.classes.now.numbers.items u end j c (events_of b.indexed.now.events u)

pub record AreBelow (b : Basis) (u j : ℕ) (below : Below) : Type 0 where
  pub earlier : IsBelow b u j (count_before b.indexed.now.events) below.earlier
  pub known : IsBelow b u j (known_before b.indexed.now.events) below.known
  pub forced : IsBelow b u j (counted_before b.forced.now b.indexed.now.events) below.forced

-- The number of events of each class below the three cuts, each within the one before it. It is 0 for a class whose
-- events are all thread u's.
pub record AreLoose (b : Basis) (u : ℕ) (earlier known forced : List ℕ) : Type 0 where
  pub earlier_len : length earlier ≡ length b.classes.now.infos.items
  pub known_len : length known ≡ length b.classes.now.infos.items
  pub forced_len : length forced ≡ length b.classes.now.infos.items
  pub under : (c : ℕ) → c < length b.classes.now.infos.items → slice_index known c ≤ slice_index earlier c
  pub within : (c : ℕ) → c < length b.classes.now.infos.items → slice_index forced c ≤ slice_index known c
  pub own : (c : ℕ) → c < length b.classes.now.infos.items → slice_index b.conflicts.now.owners.items c ≡ u → slice_index earlier c ≡ 0
  pub few : (c : ℕ) → c < length b.classes.now.infos.items → slice_index earlier c ≤ 1099511627776

-- what each class adds to a part, from the numbers below the three cuts
abbrev pub loose_of : List ℕ → List ℕ → List ℕ → Part → ℕ → ℕ
loose_of earlier known forced k c = by_part 0 (slice_index earlier c - slice_index known c) (slice_index known c - slice_index forced c) k

-- The counts of one worker. It fails only if memory runs out, or if there are more than `limit` rows.
pub record IsPart {S : Type 0} (b : Basis) (place : ℕ → ℕ) (limit from : ℕ) (part : Result (IndexMap (ℕ × ℕ) Sums S) RowsRefusal) : Type 0 where
  pub counted : IfOk part (AreInTurn b from (length b.indexed.now.threads))
  pub rows : IfOk part (λ m. AreRows m)
  pub kept : IfOk part (λ m. index_map_len m ≤ limit)
  pub too_many : part ≡ Err TooMany → AreTooMany b.indexed.now.events place limit

-- the counts of each worker
abbrev pub AreParts : {S : Type 0} → Basis → (ℕ → ℕ) → ℕ → List (Result (IndexMap (ℕ × ℕ) Sums S) RowsRefusal) → Type 0
AreParts {S} b place limit parts =
    (w : ℕ) (d : Result (IndexMap (ℕ × ℕ) Sums S) RowsRefusal) → w < length parts → IsPart b place limit w (slice_index_or parts w d)
