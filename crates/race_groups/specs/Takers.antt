-- The thread that acquires a lock. No public clause cites this module. `T` is the events of a trace.
use Rattle.std.specs.Prelude.{◌≡◌, ℕ, ◌<◌, nat_lt, not, Bool, List, filter, length, slice_get, slice_index, Some, Vec}
use Rattle.std.specs.List.Sorted.{IsPermutation}
use Rattle.std.specs.declared.alloc.Global.{Global}
use Rattle.rapid_text.specs.Recording.{Recording}
use Rattle.rapid_text.specs.declared.event.Event.{Event}
use Rattle.rapid_text.specs.declared.event.Op.TheVariants.{Acquire}
use Rattle.event_index.specs.Events.{op_at, thread_at}
use Rattle.race_groups.specs.declared.listing.Holds.{Holds}

-- If the taker of a lock is a thread, no other thread acquires the lock.
abbrev pub AreTakers : List Event → ℕ → List ℕ → Type 0
AreTakers T threads takers =
    (e t l : ℕ) → thread_at T e ≡ Some t → op_at T e ≡ Some (Acquire l) → slice_index takers l < threads → slice_index takers l ≡ t

-- the same for a trace
abbrev pub AreTakersOf : Recording → List ℕ → Type 0
AreTakersOf r = AreTakers r.events (length r.threads)

-- the same for the first n events
abbrev pub AreTakersBelow : List Event → ℕ → ℕ → List ℕ → Type 0
AreTakersBelow T threads n takers =
    (e t l : ℕ) → e < n → thread_at T e ≡ Some t → op_at T e ≡ Some (Acquire l) → slice_index takers l < threads → slice_index takers l ≡ t

-- whether the taker is not one of the threads
abbrev pub is_lent : List ℕ → ℕ → ℕ → Bool
is_lent takers threads l = not (nat_lt (slice_index takers l) threads)

-- the locks that the thread holds and that more than one thread acquires, in some order
abbrev pub AreLentLocks : Holds → ℕ → List ℕ → Type 0
AreLentLocks h t locks =
    (u : Vec ℕ Global) → slice_get h.held.now t ≡ Some u
    → IsPermutation (filter (is_lent h.takers.now (length h.indexed.now.threads)) u.items) locks
