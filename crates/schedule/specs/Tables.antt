-- The contents of a schedule's tables, as functions of its list. No public clause cites this module. A write sets its
-- variable; an acquire sets its lock, and a release frees it. `T` is the events of the trace, `P` the list, `q` a
-- variable or a lock.
use Rattle.std.specs.Prelude.{◌≡◌, ℕ, ◌+◌, ◌-◌, Bool, false, List, length, take, reverse, find, count_by, slice_get, slice_index, option_map, Option, Some, None, if◌then◌else◌}
use Rattle.rapid_text.specs.declared.event.Event.{Event}
use Rattle.rapid_text.specs.declared.event.Op.{Op}
use Rattle.rapid_text.specs.declared.event.Op.TheVariants.{Write, Acquire, Release}
use Rattle.event_index.specs.Events.{passes_at, is_of_thread}
use Rattle.event_index.specs.Tables.{IsTable}
use Rattle.schedule.specs.Counts.{count_in, AreByThread}
use Rattle.schedule.specs.Keys.{key_eq}
use Rattle.schedule.specs.LatestTables.{held}
use Rattle.schedule.specs.declared.latest.Key.{Key}
use Rattle.schedule.specs.declared.latest.Key.TheVariants.{Variable, Lock}
use Rattle.schedule.specs.declared.latest.Latest.{Latest}
use Rattle.schedule.specs.declared.tables.Tables.{Tables}

-- whether the operation sets q, frees it
abbrev pub sets_op : Key → Op → Bool
sets_op q (Write x) = key_eq (Variable x) q
sets_op q (Acquire l) = key_eq (Lock l) q
sets_op q op = false

abbrev pub frees_op : Key → Op → Bool
frees_op q (Release l) = key_eq (Lock l) q
frees_op q op = false

-- whether the event sets q, frees it
abbrev pub sets : List Event → Key → ℕ → Bool
sets T q e = passes_at (λ v. sets_op q v.op) T e

abbrev pub frees : List Event → Key → ℕ → Bool
frees T q e = passes_at (λ v. frees_op q v.op) T e

-- the last event that set q: the last write of a variable, the last acquire of a lock
abbrev pub last_set : List Event → List ℕ → Key → Option ℕ
last_set T P q = find (sets T q) (reverse P)

abbrev pub latest_by : Option ℕ → ℕ → ℕ → Option Latest
latest_by last set freed = option_map (λ e. record { event = e; depth = set - freed }) last

-- The entry of q: none if no event set it. Otherwise the last event that set it, and the sets minus the frees. For a
-- lock this is the number of holds of the thread that acquired it last.
abbrev pub latest_of : List Event → List ℕ → Key → Option Latest
latest_of T P q = latest_by (last_set T P q) (count_by (sets T q) P) (count_by (frees T q) P)

-- the last event that set the operation's key, if the operation sets a key
abbrev pub shadow_of_op : (Key → Option ℕ) → Op → Option ℕ
shadow_of_op last (Write x) = last (Variable x)
shadow_of_op last (Acquire l) = last (Lock l)
shadow_of_op last op = None

abbrev pub shadow_by : (Key → Option ℕ) → Option Event → Option ℕ
shadow_by last None = None
shadow_by last (Some v) = shadow_of_op last v.op

-- the event that e shadows after P: for a write the last write of its variable, for an acquire the last acquire of
-- its lock
abbrev pub shadow_at : List Event → List ℕ → ℕ → Option ℕ
shadow_at T P e = shadow_by (last_set T P) (slice_get T e)

-- the same for the event at an index of the list
abbrev pub shadow_of : List Event → List ℕ → ℕ → Option ℕ
shadow_of T P i = shadow_at T (take i P) (slice_index P i)

-- The tables are those of the list: each thread's number of events, the entry of each variable and lock, and for each
-- index the event that is shadowed there.
pub record AreTables (T : List Event) (P : List ℕ) (s : Tables) : Type 0 where
  pub order : AreByThread s.counts.items
  pub counts : (t : ℕ) → count_in s.counts.items t ≡ count_by (is_of_thread T t) P
  pub latest : (q : Key) → held s.latest q ≡ latest_of T P q
  pub shadows : IsTable (shadow_of T P) (length P) s.shadows.items

-- the effects of an operation on a key's entry, and of undoing it
abbrev pub event_of : Option Latest → Option ℕ
event_of o = option_map (λ m. m.event) o

abbrev pub depth_of : Option Latest → ℕ
depth_of None = 0
depth_of (Some m) = m.depth

abbrev pub covered : ℕ → Option Latest → Option Latest
covered e o = Some (record { event = e; depth = depth_of o + 1 })

abbrev pub lowered : Option Latest → Option Latest
lowered o = option_map (λ m. record { event = m.event; depth = m.depth - 1 }) o

abbrev pub raised : Option Latest → Option Latest
raised o = option_map (λ m. record { event = m.event; depth = m.depth + 1 }) o

abbrev pub uncovered : Option ℕ → Option Latest → Option Latest
uncovered None o = None
uncovered (Some s) o = option_map (λ m. record { event = s; depth = m.depth - 1 }) o

abbrev pub stepped : Op → ℕ → Key → Option Latest → Option Latest
stepped op e q o = if sets_op q op then covered e o else (if frees_op q op then lowered o else o)

abbrev pub stepped_back : Op → Option ℕ → Key → Option Latest → Option Latest
stepped_back op shadow q o =
    if sets_op q op then uncovered shadow o else (if frees_op q op then raised o else o)
