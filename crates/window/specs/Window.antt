-- A window of a trace: its events k to m, after a prologue that takes the locks held there. `T` is the trace, `W` the
-- window, `n` the length of the prologue.
use Rattle.std.specs.Prelude.{◌≡◌, ◌≢◌, ◌⊎◌, ℕ, ◌+◌, ◌-◌, ◌<◌, ◌≤◌, nat_lt, not, List, ◌++◌, length, take, map, filter, slice_get, Some}
use Rattle.rapid_text.specs.declared.event.Event.{Event}
use Rattle.rapid_text.specs.declared.event.Op.{Op}
use Rattle.rapid_text.specs.declared.event.Op.TheVariants.{Read, Write, Acquire, Release, Fork}
use Rattle.trace_rules.specs.Rules.{acquire_count, release_count, hold_count}
use Rattle.event_index.specs.Events.{op_at}
use Rattle.event_index.specs.Lookups.{before}

-- The operations of a prologue. It reads and writes x, a variable that the window does not use. It acquires locks,
-- and releases only a lock that the window does not use.
abbrev pub IsPrologueOp : ℕ → ℕ → Op → Type 0
IsPrologueOp x lock op = (op ≡ Read x) ⊎ ((op ≡ Write x) ⊎ ((op ≡ Release lock) ⊎ ((l : ℕ) × (op ≡ Acquire l))))

-- The window's event v has to wait for the first c events of the prologue. There are none, or the window forks v's
-- thread. Or an event of that thread is the last of the c, or is a read after them.
abbrev pub IsAwaiting : List Event → ℕ → ℕ → ℕ → Event → Type 0
IsAwaiting W n x c v =
    (c ≡ 0)
    ⊎ (((f : ℕ) × (n ≤ f) × (op_at W f ≡ Some (Fork v.thread)))
    ⊎ ((i : ℕ) × (d : Event) × (i < n) × (slice_get W i ≡ Some d) × (d.thread ≡ v.thread)
    × ((i + 1 ≡ c) ⊎ ((c ≤ i) × (d.op ≡ Read x)))))

-- no event between i and j writes x
abbrev pub NoneWrites : List Event → ℕ → ℕ → ℕ → Type 0
NoneWrites W x i j = (h : ℕ) (v : Event) → i < h → h < j → slice_get W h ≡ Some v → v.op ≢ Write x

-- A later event of the chain has to wait for d, the event at i: it is of d's thread, or it reads what d writes.
pub record HasLink (W : List Event) (x lock c i : ℕ) (d : Event) : Type 0 where
  pub place : ℕ
  pub event : Event
  pub later : i < place
  pub within : place < c
  pub found : slice_get W place ≡ Some event
  pub kept : event.op ≢ Release lock
  pub link : (d.thread ≡ event.thread) ⊎ ((d.op ≡ Write x) × (event.op ≡ Read x) × NoneWrites W x i place)

-- the window neither acquires nor releases the lock
abbrev pub IsOffLock : List Event → ℕ → ℕ → Type 0
IsOffLock W n l = (e : ℕ) (v : Event) → n ≤ e → slice_get W e ≡ Some v → (v.op ≢ Acquire l) × (v.op ≢ Release l)

-- The prologue acquires the lock as often as the thread holds it at k. Or it does so less often, and the window
-- cannot free the lock: the thread releases it less often there, or the window does not touch it.
pub record IsTaken (T W : List Event) (k n t l : ℕ) : Type 0 where
  pub most : acquire_count (take n W) t l ≤ hold_count (take k T) t l
  pub enough :
      (acquire_count (take n W) t l ≡ hold_count (take k T) t l)
      ⊎ ((release_count W t l < acquire_count (take n W) t l) ⊎ IsOffLock W n l)

-- W is n events of a prologue, and then the events k to m of T. The first c events of the prologue are the chain,
-- which acquires the locks held at k. The prologue accesses its variable x under its own lock.
pub record IsWindow (T W : List Event) (k m n x lock c : ℕ) : Type 0 where
  pub begins : k ≤ m
  pub within : m ≤ length T
  pub size : length W ≡ n + (m - k)
  pub same : (i : ℕ) → i < m - k → slice_get W (n + i) ≡ slice_get T (k + i)
  -- the window uses neither x nor the prologue's lock
  pub unused : (e : ℕ) (v : Event) → n ≤ e → slice_get W e ≡ Some v → (v.op ≢ Read x) × (v.op ≢ Write x)
  pub unlocked : IsOffLock W n lock
  pub chain : c ≤ n
  pub ops : (i : ℕ) (v : Event) → i < n → slice_get W i ≡ Some v → IsPrologueOp x lock v.op
  -- the prologue acquires the locks that are held at k
  pub taken : (t l : ℕ) → l ≢ lock → IsTaken T W k n t l
  -- the prologue's lock is acquired only while no thread holds it, and is held at each access and each release
  pub free : (i u : ℕ) (v : Event) → i < n → slice_get W i ≡ Some v → v.op ≡ Acquire lock → hold_count (take i W) u lock ≡ 0
  pub held : (i : ℕ) (v : Event) → i < n → slice_get W i ≡ Some v → ((l : ℕ) × (v.op ≡ Acquire l)) ⊎ (0 < hold_count (take i W) v.thread lock)
  -- each event of the chain, except a release, has a later one that waits for it; the last event is a write
  pub linked : (i : ℕ) (d : Event) → i + 1 < c → slice_get W i ≡ Some d → (d.op ≡ Release lock) ⊎ HasLink W x lock c i d
  pub ends : (i : ℕ) (v : Event) → i + 1 ≡ c → slice_get W i ≡ Some v → v.op ≡ Write x
  -- after the chain come reads, each under the lock
  pub reads : (i : ℕ) (v : Event) → c ≤ i → i < n → slice_get W i ≡ Some v → (v.op ≡ Read x) ⊎ ((v.op ≡ Acquire lock) ⊎ (v.op ≡ Release lock))
  -- each event of the window waits for the chain
  pub awaited : (e : ℕ) (v : Event) → n ≤ e → slice_get W e ≡ Some v → IsAwaiting W n x c v
  -- no thread of the prologue is forked in the window
  pub unforked : (i f : ℕ) (d : Event) → i < n → n ≤ f → slice_get W i ≡ Some d → op_at W f ≢ Some (Fork d.thread)

-- the number in the trace of the event e of the window
abbrev pub back : ℕ → ℕ → ℕ → ℕ
back n k e = k + (e - n)

-- the list without the prologue, its events numbered as in the trace
abbrev pub stripped : ℕ → ℕ → List ℕ → List ℕ
stripped n k P = map (back n k) (filter (λ e. not (nat_lt e n)) P)

-- the events before k as recorded, and then those of the list
abbrev pub resumed : ℕ → ℕ → List ℕ → List ℕ
resumed n k P = before k ++ stripped n k P

-- the reverse: the number in the window of the event d of the trace
abbrev pub forth : ℕ → ℕ → ℕ → ℕ
forth n k d = n + (d - k)

-- the prologue, and then the events of the list, numbered as in the window
abbrev pub entered : ℕ → ℕ → List ℕ → List ℕ
entered n k S = before n ++ map (forth n k) S
