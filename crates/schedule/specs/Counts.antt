-- The counts of threads: an entry for each thread, in the order of the threads. No public clause cites this module.
use Rattle.std.specs.Prelude.{◌≡◌, ℕ, ◌+◌, ◌-◌, ◌<◌, ◌≤◌, ◌==◌, List, [], ◌∷◌, length, slice_index_or, if◌then◌else◌}
use Rattle.schedule.specs.declared.counts.ThreadCount.{ThreadCount}

-- the count of the thread: that of its entry, or 0 without an entry
abbrev pub count_in : List ThreadCount → ℕ → ℕ
count_in [] t = 0
count_in (c ∷ cs) t = if c.thread == t then c.count else count_in cs t

-- each entry's thread is lower than the threads of the entries after it
abbrev pub AreByThread : List ThreadCount → Type 0
AreByThread cs = (i j : ℕ) (d : ThreadCount) → i < j → j < length cs → (slice_index_or cs i d).thread < (slice_index_or cs j d).thread

-- the entry of the thread is at index i
abbrev pub IsPlaceOf : List ThreadCount → ℕ → ℕ → Type 0
IsPlaceOf cs t i = (i < length cs) × ((d : ThreadCount) → (slice_index_or cs i d).thread ≡ t)

-- the thread has no entry, and index i is that of a new one: between the lower threads and the higher ones
pub record IsGapFor (cs : List ThreadCount) (t i : ℕ) : Type 0 where
  pub within : i ≤ length cs
  pub below : (k : ℕ) (d : ThreadCount) → k < i → (slice_index_or cs k d).thread < t
  pub above : (k : ℕ) (d : ThreadCount) → i ≤ k → k < length cs → t < (slice_index_or cs k d).thread

-- the thread's count is one higher, and the other counts are as before
abbrev pub CountsUp : List ThreadCount → List ThreadCount → ℕ → Type 0
CountsUp old new thread = (t : ℕ) → count_in new t ≡ (if thread == t then count_in old thread + 1 else count_in old t)

-- the thread's count is one lower, and the other counts are as before
abbrev pub CountsDown : List ThreadCount → List ThreadCount → ℕ → Type 0
CountsDown old new thread = (t : ℕ) → count_in new t ≡ (if thread == t then count_in old thread - 1 else count_in old t)
