-- Which acquires begin an outermost section, and what the pass keeps of them. No public clause cites this module. `T`
-- is the events of a trace.
use Rattle.std.specs.Prelude.{◌≡◌, ◌≢◌, ℕ, Bool, true, false, ◌==◌, ◌&&◌, ◌<◌, ◌≤◌, Vec, List, [], length, take, filter, reverse, find, slice_get, slice_index, Option, Some, None, option_map, All, Contains}
use Rattle.std.specs.Global.{Global}
use Rattle.rapid_text.specs.Operations.{is_acquire}
use Rattle.rapid_text.specs.Recording.{Recording}
use Rattle.rapid_text.specs.declared.event.Event.{Event}
use Rattle.rapid_text.specs.declared.event.Op.TheVariants.{Acquire}
use Rattle.trace_rules.specs.Rules.{hold_count}
use Rattle.event_index.specs.Events.{op_at, thread_at}
use Rattle.event_index.specs.Lookups.{before, section_end}
use Rattle.must_order.specs.declared.sections.Sections.{Sections}
use Rattle.must_order.specs.Layout.{IsCounted}
use Rattle.must_order.specs.MustBefore.{EndsFirst, IsInSection}

abbrev pub outer_by : List Event → ℕ → ℕ → Option Event → Bool
outer_by T l e None = false
outer_by T l e (Some v) = is_acquire l v.op && hold_count (take e T) v.thread l == 0

-- whether event e acquires the lock, and its thread does not hold it before e
abbrev pub is_outer : List Event → ℕ → ℕ → Bool
is_outer T l e = outer_by T l e (slice_get T e)

-- the last such event among the first j
abbrev pub last_outer : List Event → ℕ → ℕ → Option ℕ
last_outer T l j = find (is_outer T l) (reverse (before j))

-- event p is one of the first i, and acquires a lock
abbrev pub IsAcquireBelow : List Event → ℕ → ℕ → Type 0
IsAcquireBelow T i p = (p < i) × (l : ℕ) × (op_at T p ≡ Some (Acquire l))

-- no event before i ends the section of p
abbrev pub IsOpenAt : List Event → ℕ → ℕ → Type 0
IsOpenAt T i p = (r : ℕ) → section_end T p ≡ Some r → i ≤ r

-- What the pass keeps after the first i events: the outermost acquires of each lock, and those of all locks whose
-- section is open.
pub record AreSections (r : Recording) (i : ℕ) (s : Sections) : Type 0 where
  pub len : length s.by_lock.items ≡ length r.locks
  pub by_lock :
      (l : ℕ) → l < length r.locks → option_map (λ v. v.items) (slice_get s.by_lock.items l) ≡ Some (filter (is_outer r.events l) (before i))
  pub acquires : All (IsAcquireBelow r.events i) s.held.items
  pub all : (p l : ℕ) → p < i → is_outer r.events l p ≡ true → IsOpenAt r.events i p → Contains s.held.items p

-- an acquire and the end of its section, which has to end before e: the row counts the acquire and not the end
abbrev pub IsOwed : List Event → ℕ → (ℕ → ℕ) → ℕ × ℕ → Type 0
IsOwed T e row o = EndsFirst T o.0 o.1 e × IsCounted T row o.0 × ¬ IsCounted T row o.1

-- for each section of the lock (and of the thread) that has to end before e: if the row counts its beginning, it
-- counts its end
abbrev pub IsSettledOn : List Event → ℕ → (ℕ → ℕ) → ℕ → Type 0
IsSettledOn T e row l = (p r : ℕ) (s : EndsFirst T p r e) → s.lock ≡ l → IsCounted T row p → IsCounted T row r

abbrev pub IsSettledBy : List Event → ℕ → (ℕ → ℕ) → ℕ → ℕ → Type 0
IsSettledBy T e row l u = (p r : ℕ) (s : EndsFirst T p r e) → s.lock ≡ l → s.owner ≡ u → IsCounted T row p → IsCounted T row r

-- the same for the lock that p acquires, if e is in the section of p
abbrev pub IsSettledWithin : List Event → ℕ → (ℕ → ℕ) → ℕ → Type 0
IsSettledWithin T e row p =
    (l t : ℕ) → op_at T p ≡ Some (Acquire l) → thread_at T p ≡ Some t → thread_at T e ≡ Some t → IsOpenAt T e p → IsSettledOn T e row l

-- event e ends the section of the acquire at this index of `held`
abbrev pub EndsHeld : List Event → Sections → ℕ → ℕ → Type 0
EndsHeld T s e at = (at < length s.held.items) × (section_end T (slice_index s.held.items at) ≡ Some e)

-- event e ends no section of these acquires
abbrev pub EndsNone : List Event → Sections → ℕ → Type 0
EndsNone T s e = (k : ℕ) → k < length s.held.items → section_end T (slice_index s.held.items k) ≢ Some e

-- if e acquires a lock, the row counts the ends of that lock's sections that have to end before e
abbrev pub IsSettledAt : List Event → ℕ → (ℕ → ℕ) → Type 0
IsSettledAt T e row = (l : ℕ) → op_at T e ≡ Some (Acquire l) → IsSettledOn T e row l

-- e is in a section of the lock, or begins one
abbrev pub LiesInSection : List Event → ℕ → ℕ → Type 0
LiesInSection T e l = (t : ℕ) → thread_at T e ≡ Some t → IsInSection T e t l

-- the first `count` lists are empty
abbrev pub AreEmptyLists : List (Vec ℕ Global) → ℕ → Type 0
AreEmptyLists lists count = (m : ℕ) → m < count → option_map (λ w. w.items) (slice_get lists m) ≡ Some []

-- o is p, an acquire of thread t, with the end of its section, which comes after `last`
abbrev pub EndsLater : List Event → ℕ → ℕ → ℕ → ℕ × ℕ → Type 0
EndsLater T p t last o = (o.0 ≡ p) × (thread_at T p ≡ Some t) × (section_end T p ≡ Some o.1) × (last < o.1)

-- if p is of thread t, its section ends at `last` or before, if it ends
abbrev pub EndsBy : List Event → ℕ → ℕ → ℕ → Type 0
EndsBy T p t last = thread_at T p ≡ Some t → (r : ℕ) → section_end T p ≡ Some r → r ≤ last

-- e is in the section that its thread began at p
abbrev pub LiesIn : List Event → ℕ → ℕ → Type 0
LiesIn T p e = (thread_at T p ≡ thread_at T e) × IsOpenAt T e p

-- if p is of e's thread, e is not in the section of p
abbrev pub LiesOutside : List Event → ℕ → ℕ → Type 0
LiesOutside T p e = thread_at T p ≡ thread_at T e → ¬ IsOpenAt T e p
