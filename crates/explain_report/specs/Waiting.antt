-- Which event of a schedule waits for another, and the phrase for the reason. `T` is the events of a trace, `es` a list
-- of events. All notions here are this project's own.
use Rattle.std.specs.Prelude.{◌≡◌, ℕ, ◌<◌, nat_eq, ◌==◌, Bool, true, false, not, ◌&&◌, ◌||◌, cond, List, length, slice_get, Option, Some, codes}
use Rattle.std.specs.Option.{option_eq}
use Rattle.rapid_text.specs.Operations.{is_acquire, is_fork, is_join, is_write}
use Rattle.rapid_text.specs.declared.event.Event.{Event}
use Rattle.rapid_text.specs.declared.event.Op.{Op}
use Rattle.rapid_text.specs.declared.event.Op.TheVariants.{Read, Write, Release, Fork, Join}
use Rattle.event_index.specs.Events.{op_at, thread_at}
use Rattle.event_index.specs.Relations.{is_access, pass_both}

-- whether the second operation may wait for the first, no matter in which threads: one of two accesses writes, an
-- acquire follows a release, and a join follows a fork
abbrev pub is_handed : Op → Op → Bool
is_handed (Read x) op = is_write x op
is_handed (Write x) op = is_access x op
is_handed (Release l) op = is_acquire l op
is_handed (Fork u) op = is_join u op
is_handed op other = false

-- whether event w may wait for event v of another thread: by its operation, because v forks its thread, or because
-- it joins v's
abbrev pub is_awaited : Event → Event → Bool
is_awaited v w = not (v.thread == w.thread) && (is_fork w.thread v.op || is_join v.thread w.op || is_handed v.op w.op)

-- the same of events by their numbers
abbrev pub is_waiting : List Event → ℕ → ℕ → Bool
is_waiting T a b = pass_both is_awaited (slice_get T a) (slice_get T b)

-- event w comes later in the list than index k, and waits for the event there
pub record IsWaiter (T : List Event) (es : List ℕ) (k w : ℕ) : Type 0 where
  pub event : ℕ
  pub place : ℕ
  pub at : slice_get es k ≡ Some event
  pub found : slice_get es place ≡ Some w
  pub later : k < place
  pub waits : is_waiting T event w ≡ true

-- For each index of the list, an event that waits for the one there, or None.
pub record AreWaiters (T : List Event) (es : List ℕ) (ws : List (Option ℕ)) : Type 0 where
  pub whole : length ws ≡ length es
  pub each : (k w : ℕ) → slice_get ws k ≡ Some (Some w) → IsWaiter T es k w

-- a fork of thread u before a join of thread v; `t` is the joining thread
abbrev pub fork_join_words : ℕ → ℕ → Option ℕ → List ℕ
fork_join_words u v t =
    cond (option_eq nat_eq t (Some u) && not (u == v)) (codes "begins the thread of") (codes "forks the thread that is joined by")

-- a fork of thread u before an operation of thread t
abbrev pub fork_words : ℕ → Option ℕ → Option Op → List ℕ
fork_words u t (Some (Join v)) = fork_join_words u v t
fork_words u t _ = codes "begins the thread of"

-- a write before an operation
abbrev pub write_words : Option Op → List ℕ
write_words (Some (Join v)) = codes "ends the thread that is joined by"
write_words (Some (Read x)) = codes "is read by"
write_words _ = codes "writes before"

-- any other operation before one: these words, unless that one is a join
abbrev pub join_words : Option Op → List ℕ → List ℕ
join_words (Some (Join v)) words = codes "ends the thread that is joined by"
join_words _ words = words

abbrev pub words_by : Option Op → Option Op → Option ℕ → List ℕ
words_by (Some (Fork u)) other t = fork_words u t other
words_by (Some (Write x)) other t = write_words other
words_by (Some (Read x)) other t = join_words other (codes "reads before")
words_by _ other t = join_words other (codes "lets the lock go that is taken by")

-- why event b waits for event a, as the phrase between the two
abbrev pub words_between : List Event → ℕ → ℕ → List ℕ
words_between T a b = words_by (op_at T a) (op_at T b) (thread_at T b)
