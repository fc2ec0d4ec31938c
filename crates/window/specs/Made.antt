-- How a window is built: for each hold a read of x, the acquire and a write of x; then a read of x by each thread
-- that waits; then the events k to m. Each access of x is made under a lock of the prologue's own.
use Rattle.std.specs.Prelude.{◌≡◌, ◌≢◌, ◌⊎◌, ℕ, ◌+◌, ◌-◌, ◌*◌, ◌<◌, ◌≤◌, ◌==◌, ◌&&◌, ◌||◌, nat_lt, not, if◌then◌else◌, Bool, List, [], ◌∷◌, ◌++◌, length, take, drop, filter, flat_map, replicate, count_by, slice_get, Some, None, Option, find, Contains}
use Rattle.std.specs.List.{list_any}
use Rattle.rapid_text.specs.Operations.{is_acquire, is_release, is_fork}
use Rattle.rapid_text.specs.declared.event.Event.{Event}
use Rattle.rapid_text.specs.declared.event.Op.{Op}
use Rattle.rapid_text.specs.declared.event.Op.TheVariants.{Read, Write, Acquire, Release, Fork}
use Rattle.trace_rules.specs.Rules.{release_count, hold_count}
use Rattle.event_index.specs.Events.{op_at}
use Rattle.event_index.specs.Lookups.{before}

-- an event
abbrev pub does : ℕ → Op → Event
does t op = record { thread = t; op = op }

-- the events of an access that is made under the prologue's lock
abbrev pub access_of : ℕ → ℕ → Op → List Event
access_of lock t op = does t (Acquire lock) ∷ does t op ∷ does t (Release lock) ∷ []

-- The chain for a list of holds, each a thread and a lock. The thread reads x under the prologue's lock, acquires the
-- lock that it holds, and writes x under the prologue's lock.
abbrev pub chain_of : ℕ → ℕ → List (ℕ × ℕ) → List Event
chain_of x lock [] = []
chain_of x lock (h ∷ holds) =
    does h.0 (Acquire lock) ∷ does h.0 (Read x) ∷ does h.0 (Release lock)
    ∷ does h.0 (Acquire h.1)
    ∷ does h.0 (Acquire lock) ∷ does h.0 (Write x) ∷ does h.0 (Release lock)
    ∷ chain_of x lock holds

-- the reads by the threads that wait, each under the prologue's lock
abbrev pub reads_of : ℕ → ℕ → List ℕ → List Event
reads_of x lock [] = []
reads_of x lock (t ∷ readers) = does t (Acquire lock) ∷ does t (Read x) ∷ does t (Release lock) ∷ reads_of x lock readers

-- the events from k to m
abbrev pub part_of : List Event → ℕ → ℕ → List Event
part_of T k m = take (m - k) (drop k T)

-- the window with this prologue
abbrev pub window_by : List Event → ℕ → ℕ → ℕ → ℕ → List (ℕ × ℕ) → List ℕ → List Event
window_by T k m x lock holds readers = chain_of x lock holds ++ reads_of x lock readers ++ part_of T k m

-- the length of the chain up to its last write, and that of the prologue
abbrev pub links_of : List (ℕ × ℕ) → ℕ
links_of holds = 7 * length holds - 1

abbrev pub front_of : List (ℕ × ℕ) → List ℕ → ℕ
front_of holds readers = 7 * length holds + 3 * length readers

-- no event from k to m acquires or releases the lock
abbrev pub IsOff : List Event → ℕ → ℕ → ℕ → Type 0
IsOff T k m l = (e : ℕ) (v : Event) → k ≤ e → e < m → slice_get T e ≡ Some v → (v.op ≢ Acquire l) × (v.op ≢ Release l)

-- h holds of the lock are enough for those that the thread has at k: as many, or fewer that the part does not all
-- release
pub record IsHold (T : List Event) (k m t l h : ℕ) : Type 0 where
  pub most : h ≤ hold_count (take k T) t l
  pub enough : (h ≡ hold_count (take k T) t l) ⊎ ((release_count (part_of T k m) t l < h) ⊎ IsOff T k m l)

abbrev pub AreHolds : List Event → ℕ → ℕ → List (ℕ × ℕ) → Type 0
AreHolds T k m holds = (t l : ℕ) → IsHold T k m t l (count_by (λ h. h.0 == t && h.1 == l) holds)

-- The threads that wait. Each thread with an event from k to m is one, unless nothing is held or the part forks the
-- thread.
pub record AreReaders (T : List Event) (k m : ℕ) (holds : List (ℕ × ℕ)) (readers : List ℕ) : Type 0 where
  pub waits :
      (e : ℕ) (v : Event) → k ≤ e → e < m → slice_get T e ≡ Some v
      → (holds ≡ []) ⊎ (((f : ℕ) × (k ≤ f) × (f < m) × (op_at T f ≡ Some (Fork v.thread))) ⊎ Contains readers v.thread)
  pub unforked : (t f : ℕ) → Contains readers t → k ≤ f → f < m → op_at T f ≢ Some (Fork t)

-- no event from k to m reads or writes x, or acquires or releases the lock
pub record IsUnused (T : List Event) (k m x lock : ℕ) : Type 0 where
  pub variable : (e : ℕ) (v : Event) → k ≤ e → e < m → slice_get T e ≡ Some v → (v.op ≢ Read x) × (v.op ≢ Write x)
  pub off : IsOff T k m lock

-- none of the holds is of the lock
abbrev pub AreOthers : ℕ → List (ℕ × ℕ) → Type 0
AreOthers lock holds = (t : ℕ) → count_by (λ h. h.0 == t && h.1 == lock) holds ≡ 0

-- the threads and the locks of T are below these numbers
pub record IsBounded (T : List Event) (threads locks : ℕ) : Type 0 where
  pub of_threads : (e : ℕ) (v : Event) → slice_get T e ≡ Some v → v.thread < threads
  pub of_locks : (e l : ℕ) (v : Event) → slice_get T e ≡ Some v → v.op ≡ Acquire l → l < locks

-- whether the event is on the lock; the number of events from k to m on the lock
abbrev pub is_on : ℕ → Event → Bool
is_on l v = is_acquire l v.op || is_release l v.op

abbrev pub touch_count : List Event → ℕ → ℕ → ℕ → ℕ
touch_count T k m l = count_by (is_on l) (part_of T k m)

-- the number of holds that is enough: all, but at most twice the number of events on the lock, which the part cannot
-- all release
abbrev pub serving : List Event → ℕ → ℕ → ℕ → ℕ → ℕ
serving T k m t l =
    if nat_lt (2 * touch_count T k m l) (hold_count (take k T) t l) then 2 * touch_count T k m l else hold_count (take k T) t l

-- the thread that holds the lock at k, if there is one
abbrev pub owner : List Event → ℕ → ℕ → ℕ → Option ℕ
owner T k threads l = find (λ t. nat_lt 0 (hold_count (take k T) t l)) (before threads)

abbrev pub holds_of : List Event → ℕ → ℕ → Option ℕ → ℕ → List (ℕ × ℕ)
holds_of T k m None l = []
holds_of T k m (Some t) l = replicate (serving T k m t l) (t, l)

-- the holds that are enough, in the order of the locks
abbrev pub holds_at : List Event → ℕ → ℕ → ℕ → ℕ → List (ℕ × ℕ)
holds_at T k m threads locks = flat_map (λ l. holds_of T k m (owner T k threads l) l) (before locks)

-- the threads that have an event from k to m and are not forked there; no thread waits if nothing is held
abbrev pub readers_of : List Event → ℕ → ℕ → ℕ → List ℕ
readers_of T k m threads =
    filter (λ t. list_any (λ v. v.thread == t) (part_of T k m) && not (list_any (λ v. is_fork t v.op) (part_of T k m))) (before threads)

abbrev pub waiting : List (ℕ × ℕ) → List ℕ → List ℕ
waiting [] readers = []
waiting (h ∷ holds) readers = readers

abbrev pub readers_at : List Event → ℕ → ℕ → ℕ → ℕ → List ℕ
readers_at T k m threads locks = waiting (holds_at T k m threads locks) (readers_of T k m threads)

-- the window of the trace from k to m
abbrev pub window_of : List Event → ℕ → ℕ → ℕ → ℕ → ℕ → ℕ → List Event
window_of T k m x lock threads locks = window_by T k m x lock (holds_at T k m threads locks) (readers_at T k m threads locks)

-- the length of its chain up to the last write, and that of its prologue
abbrev pub chain_length : List Event → ℕ → ℕ → ℕ → ℕ → ℕ
chain_length T k m threads locks = links_of (holds_at T k m threads locks)

abbrev pub prologue_length : List Event → ℕ → ℕ → ℕ → ℕ → ℕ
prologue_length T k m threads locks = front_of (holds_at T k m threads locks) (readers_at T k m threads locks)
