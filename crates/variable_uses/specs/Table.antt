-- The table of the accesses of chosen variables. `r` is the recording of a trace.
use Rattle.std.specs.Prelude.{◌≡◌, ℕ, ◌<◌, ◌==◌, ◌&&◌, nat_lt, Bool, false, cond, List, [], ◌∷◌, count_by, flat_map, length, Option, None, Some, take, slice_get, slice_index, slice_index_or, Vec}
use Rattle.std.specs.List.{list_any, sum_by}
use Rattle.std.specs.declared.alloc.Global.{Global}
use Rattle.rapid_text.specs.Recording.{Recording}
use Rattle.rapid_text.specs.declared.event.Event.{Event}
use Rattle.trace_rules.specs.Rules.{hold_count}
use Rattle.event_index.specs.Lookups.{before}
use Rattle.variable_uses.specs.Order.{IsSide}
use Rattle.variable_uses.specs.Rows.{count_in, firsts_of, has_key, is_held_at, keys_of, threads_in}
use Rattle.variable_uses.specs.declared.columns.LockCount.{LockCount}
use Rattle.variable_uses.specs.declared.order.Side.{Side}
use Rattle.variable_uses.specs.declared.uses.Asked.{Asked}
use Rattle.variable_uses.specs.declared.uses.Uses.{Uses}

-- whether an event that passes the test is named
abbrev pub is_named_row : ℕ → List Bool → (ℕ → Bool) → Bool
is_named_row n named test = list_any (λ e. slice_index_or named e false && test e) (before n)

-- whether event e is an access of the race: it is in a row that has a named event
abbrev pub is_of_race : List ℕ → List Bool → ℕ → Bool
is_of_race keys named e = nat_lt 0 (slice_index keys e) && is_named_row (length keys) named (has_key keys (slice_index keys e))

-- at how many of the first n events that pass the test the lock is held
abbrev pub held_count : List Event → ℕ → (ℕ → Bool) → ℕ → ℕ
held_count T n test l = count_in n (λ e. test e && is_held_at T l e)

-- the lock with its count, if the count is not 0
abbrev pub lock_entry : ℕ → ℕ → List LockCount
lock_entry lock count = cond (nat_lt 0 count) ((record { lock = lock; count = count }) ∷ []) []

-- the locks that are held at events that pass the test, with at how many of them
abbrev pub locks_held : Recording → (ℕ → Bool) → List LockCount
locks_held r test = flat_map (λ l. lock_entry l (held_count r.events (length r.events) test l)) (before (length r.locks))

-- how many locks the thread holds after the events es; a lock that is held twice counts twice
abbrev pub hold_total : Recording → List Event → ℕ → ℕ
hold_total r es t = sum_by (λ l. hold_count es t l) (before (length r.locks))

abbrev pub holds_by : Recording → List Event → Option Event → ℕ
holds_by r es None = 0
holds_by r es (Some v) = hold_total r es v.thread

-- how many locks the thread of event e holds before it, if the event passes the test
abbrev pub holds_at : Recording → (ℕ → Bool) → ℕ → ℕ
holds_at r test e = cond (test e) (holds_by r (take e r.events) (slice_get r.events e)) 0

-- how many locks are held at those of the first n events that pass the test
abbrev pub holds_in : Recording → (ℕ → Bool) → ℕ → ℕ
holds_in r test n = sum_by (holds_at r test) (before n)

-- how many locks are held at the accesses of the chosen variables, over all of them
abbrev pub holds_asked : Recording → Asked → ℕ
holds_asked r asked = holds_in r (λ e. nat_lt 0 (slice_index (keys_of r.events asked.places.now asked.chosen.now) e)) (length r.events)

-- The columns are right for the rows with these keys. Row k has the events with the key of its first access.
pub record AreColumns (r : Recording) (keys : List ℕ) (named : List Bool) (uses : Uses) : Type 0 where
  pub firsts : uses.firsts.items ≡ firsts_of keys
  pub counts_len : length uses.counts.items ≡ length uses.firsts.items
  pub threads_len : length uses.threads.items ≡ length uses.firsts.items
  pub named_len : length uses.named.items ≡ length uses.firsts.items
  pub sides_len : length uses.sides.items ≡ length uses.firsts.items
  pub locks_len : length uses.locks.items ≡ length uses.firsts.items
  pub counts : (k : ℕ) → k < length uses.firsts.items
      → slice_index uses.counts.items k ≡ count_in (length r.events) (has_key keys (slice_index keys (slice_index uses.firsts.items k)))
  pub threads : (k : ℕ) → k < length uses.firsts.items
      → slice_index uses.threads.items k ≡ threads_in r.events (length r.threads) (has_key keys (slice_index keys (slice_index uses.firsts.items k)))
  pub named_rows : (k : ℕ) → k < length uses.firsts.items
      → slice_index_or uses.named.items k false ≡ is_named_row (length r.events) named (has_key keys (slice_index keys (slice_index uses.firsts.items k)))
  pub sides : (k : ℕ) (side : Side) → slice_get uses.sides.items k ≡ Some side
      → IsSide r.events (has_key keys (slice_index keys (slice_index uses.firsts.items k))) (is_of_race keys named) side
  pub locks : (k : ℕ) (v : Vec LockCount Global) → slice_get uses.locks.items k ≡ Some v
      → v.items ≡ locks_held r (has_key keys (slice_index keys (slice_index uses.firsts.items k)))
  pub totals : uses.totals.items ≡ locks_held r (λ e. nat_lt 0 (slice_index keys e))

-- the table of the accesses of the chosen variables
abbrev pub AreUses : Recording → Asked → Uses → Type 0
AreUses r asked uses = AreColumns r (keys_of r.events asked.places.now asked.chosen.now) asked.named.now uses
