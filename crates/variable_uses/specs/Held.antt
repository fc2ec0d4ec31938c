-- The locks that threads hold, as lists, and the accesses at which each lock is held. No public clause cites this
-- module. `T` is the events of a trace, and `numbers` has the number of each event's row.
use Rattle.std.specs.Prelude.{◌≡◌, ℕ, ◌-◌, ◌==◌, ◌&&◌, nat_lt, Bool, cond, List, [], ◌∷◌, ◌++◌, take, count_by, filter, length, slice_get, slice_index, Some, Vec}
use Rattle.std.specs.List.{list_any}
use Rattle.std.specs.declared.alloc.Global.{Global}
use Rattle.rapid_text.specs.declared.event.Event.{Event}
use Rattle.trace_rules.specs.Rules.{hold_count}
use Rattle.event_index.specs.Lookups.{before}
use Rattle.variable_uses.specs.Rows.{is_held_at}

-- how often the lock is in the list
abbrev pub times : ℕ → List ℕ → ℕ
times l locks = count_by (λ k. k == l) locks

-- Each thread's list has each lock as often as the thread holds it after the first n events.
abbrev pub AreHeld : List Event → ℕ → List (Vec ℕ Global) → Type 0
AreHeld T n held = (t : ℕ) (v : Vec ℕ Global) (l : ℕ) → slice_get held t ≡ Some v → times l v.items ≡ hold_count (take n T) t l

-- whether event e is in a row, and its thread holds the lock before it
abbrev pub is_use_under : List Event → List ℕ → ℕ → ℕ → Bool
is_use_under T numbers l e = nat_lt 0 (slice_index numbers e) && is_held_at T l e

-- for each lock, those of the first n events that are in a row and at which the lock is held
abbrev pub AreUsesBefore : List Event → List ℕ → ℕ → List (Vec ℕ Global) → Type 0
AreUsesBefore T numbers n lists = (l : ℕ) (v : Vec ℕ Global) → slice_get lists l ≡ Some v → v.items ≡ filter (is_use_under T numbers l) (before n)

-- the same, with event n for each of these locks
abbrev pub AreUsesWith : List Event → List ℕ → ℕ → List ℕ → List (Vec ℕ Global) → Type 0
AreUsesWith T numbers n locks lists =
    (l : ℕ) (v : Vec ℕ Global) → slice_get lists l ≡ Some v
    → v.items ≡ filter (is_use_under T numbers l) (before n) ++ cond (list_any (λ k. k == l) locks) (n ∷ []) []

-- the list with the event at its end, once
abbrev pub once : List ℕ → ℕ → List ℕ
once events e = cond (nat_lt 0 (length events) && slice_index events (length events - 1) == e) events (events ++ e ∷ [])

-- the list of the lock, if there is one, has the event at its end; the other lists are as before
abbrev pub IsPut : List (Vec ℕ Global) → ℕ → ℕ → List (Vec ℕ Global) → Type 0
IsPut old lock e new =
    (l : ℕ) (v : Vec ℕ Global) → slice_get new l ≡ Some v
    → (u : Vec ℕ Global) × (slice_get old l ≡ Some u) × (v.items ≡ cond (l == lock) (once u.items e) u.items)
