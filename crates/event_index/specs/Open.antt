-- What the pass over the sections knows after some events. No public clause cites this module. `T` is the events; the
-- pass has seen the first `i`.
use Rattle.std.specs.Prelude.{◌≡◌, ◌≢◌, ℕ, zero, suc, ◌<◌, ◌≤◌, List, length, take, slice_get, Some, None, Option, slice_index_or}
use Rattle.rapid_text.specs.Recording.{Recording}
use Rattle.rapid_text.specs.declared.event.Event.{Event}
use Rattle.rapid_text.specs.declared.event.Op.{Op}
use Rattle.rapid_text.specs.declared.event.Op.TheVariants.{Acquire}
use Rattle.trace_rules.specs.Rules.{hold_count}
use Rattle.event_index.specs.Lookups.{end_before}
use Rattle.event_index.specs.Layout.{IsTable}
use Rattle.event_index.specs.declared.sections.Open.{Open}

-- the event does the operation op
abbrev pub HasOp : List Event → ℕ → Op → Type 0
HasOp T e op = (v : Event) × (slice_get T e ≡ Some v) × (v.op ≡ op)

-- Acquire a of lock l by thread t is open, and t held l d times before it: since a, t has held l more often.
pub record IsOpen (T : List Event) (i t l d a : ℕ) : Type 0 where
  pub early : a < i
  pub acquire : slice_get T a ≡ Some (record { thread = t; op = Acquire l })
  pub depth : hold_count (take a T) t l ≡ d
  pub above : (j : ℕ) → a < j → j ≤ i → d < hold_count (take j T) t l

-- the open acquires of l by t, d of them, the last one first: `top` is the last, and `outer` links each to the one
-- before
abbrev pub IsStack : List Event → List (Option ℕ) → ℕ → ℕ → ℕ → ℕ → Option ℕ → Type 0
IsStack T outer i t l zero top = top ≡ None
IsStack T outer i t l (suc d) top =
    (a : ℕ) × (top ≡ Some a) × IsOpen T i t l d a × IsStack T outer i t l d (slice_index_or outer a None)

-- at most one thread holds l, and the stack of l has that thread's open acquires
pub record IsHeld (T : List Event) (outer : List (Option ℕ)) (i l : ℕ) (top : Option ℕ) : Type 0 where
  pub holder : ℕ
  pub others : (u : ℕ) → u ≢ holder → hold_count (take i T) u l ≡ 0
  pub stack : IsStack T outer i holder l (hold_count (take i T) holder l) top

-- what the pass knows after the first i events
pub record AreOpen (r : Recording) (i : ℕ) (s : Open) : Type 0 where
  pub ends : IsTable (end_before r.events i) (length r.events) s.ends.items
  pub outer : length s.outer.items ≡ length r.events
  pub top : length s.top.items ≡ length r.locks
  pub held : (l : ℕ) → l < length r.locks → IsHeld r.events s.outer.items i l (slice_index_or s.top.items l None)
