-- The tables from which a prologue and a head are made. No public clause cites this module.
use Rattle.std.specs.Prelude.{◌≡◌, ℕ, ◌*◌, ◌++◌, ◌==◌, ◌&&◌, Bool, bytes_eq, false, nat_lt, if◌then◌else◌, List, flat_map, length, replicate, slice_index_or, take, slice_get, Some}
use Rattle.std.specs.List.{list_any}
use Rattle.rapid_text.specs.Canonical.{name_at}
use Rattle.rapid_text.specs.Operations.{is_fork, is_join}
use Rattle.rapid_text.specs.Recording.{Recording}
use Rattle.rapid_text.specs.declared.event.Event.{Event}
use Rattle.rapid_text.specs.declared.event.Op.TheVariants.{Acquire}
use Rattle.trace_rules.specs.Rules.{hold_count}
use Rattle.event_index.specs.Lookups.{before}
use Rattle.event_index.specs.Tables.{IsTable}
use Rattle.window.specs.Made.{does, part_of, touch_count}
use Rattle.window.specs.declared.holding.Held.{Held}

-- after these events the thread of h has this many holds of the lock, and no other thread holds it
abbrev pub IsHeld : List Event → ℕ → Held → Type 0
IsHeld es l h = (t : ℕ) → hold_count es t l ≡ (if t == h.thread then h.depth else 0)

-- the hold of each lock before event j
pub record AreHeld (T : List Event) (j locks : ℕ) (held : List Held) : Type 0 where
  pub len : length held ≡ locks
  pub at : (l : ℕ) (h : Held) → slice_get held l ≡ Some h → IsHeld (take j T) l h

-- whether a thread has an event from k to m, and whether an event there forks it, joins it
abbrev pub has_thread : List Event → ℕ → ℕ → ℕ → Bool
has_thread T k m t = list_any (λ v. v.thread == t) (part_of T k m)

abbrev pub has_fork : List Event → ℕ → ℕ → ℕ → Bool
has_fork T k m t = list_any (λ v. is_fork t v.op) (part_of T k m)

abbrev pub has_join : List Event → ℕ → ℕ → ℕ → Bool
has_join T k m t = list_any (λ v. is_join t v.op) (part_of T k m)

-- for each lock of the recording, the number of events from k to m on it
abbrev pub IsTouchTable : Recording → ℕ → ℕ → List ℕ → Type 0
IsTouchTable r k m counts = IsTable (touch_count r.events k m) (length r.locks) counts

-- for each thread of the recording, whether it has an event from k to m; whether one forks it; whether one joins it
abbrev pub IsThreadTable : Recording → ℕ → ℕ → List Bool → Type 0
IsThreadTable r k m found = IsTable (has_thread r.events k m) (length r.threads) found

abbrev pub IsForkTable : Recording → ℕ → ℕ → List Bool → Type 0
IsForkTable r k m found = IsTable (has_fork r.events k m) (length r.threads) found

abbrev pub IsJoinTable : Recording → ℕ → ℕ → List Bool → Type 0
IsJoinTable r k m found = IsTable (has_join r.events k m) (length r.threads) found

-- whether `name` is the name of a number below n that passes the test
abbrev pub found_name : List (List ℕ) → (ℕ → Bool) → ℕ → List ℕ → Bool
found_name names test n name = list_any (λ t. test t && bytes_eq name (name_at names t)) (before n)

-- whether the thread of this name is found
abbrev pub found_in : Recording → List Bool → List ℕ → Bool
found_in r found name = found_name r.threads (λ t. slice_index_or found t false) (length r.threads) name

-- whether an event from k on forks the thread of this name; whether it has one; whether one joins it
abbrev pub forks : Recording → ℕ → List ℕ → Bool
forks r k name = found_name r.threads (has_fork r.events k (length r.events)) (length r.threads) name

abbrev pub acts : Recording → ℕ → List ℕ → Bool
acts r k name = found_name r.threads (has_thread r.events k (length r.events)) (length r.threads) name

abbrev pub joins : Recording → ℕ → List ℕ → Bool
joins r k name = found_name r.threads (has_join r.events k (length r.events)) (length r.threads) name

-- the holds of a lock that a window takes: all, but at most twice the number of its events on the lock
abbrev pub serving_holds : Held → ℕ → ℕ → List (ℕ × ℕ)
serving_holds h l touches = replicate (if nat_lt (2 * touches) h.depth then 2 * touches else h.depth) (h.thread, l)

-- an acquire of the lock for each hold
abbrev pub takes_of : Held → ℕ → List Event
takes_of h l = replicate h.depth (does h.thread (Acquire l))

-- the acquires for all locks
abbrev pub all_takes : List Held → ℕ → List Event
all_takes held n = flat_map (λ l. takes_of (slice_index_or held l (record { thread = 0; depth = 0 })) l) (before n)

-- the new list has also the acquires for all locks that are held after the recording
abbrev pub AddsTakes : Recording → List Event → List Event → Type 0
AddsTakes r old new =
    (held : List Held)
    × AreHeld r.events (length r.events) (length r.locks) held
    × (new ≡ old ++ all_takes held (length r.locks))
