-- Two relations of events: conflict and independence. Conflict is that of Mathur, Kini and Viswanathan (OOPSLA 2018);
-- independence is this project's own.
use Rattle.std.specs.Prelude.{◌≡◌, ◌≢◌, ℕ, ◌==◌, Bool, true, false, not, ◌&&◌, ◌||◌, List, slice_get, Option, Some}
use Rattle.rapid_text.specs.Operations.{is_read, is_write, is_acquire, is_release, is_fork, is_join}
use Rattle.rapid_text.specs.declared.event.Event.{Event}
use Rattle.rapid_text.specs.declared.event.Op.{Op}
use Rattle.rapid_text.specs.declared.event.Op.TheVariants.{Read, Write, Acquire, Release, Fork, Join}

-- whether the operation reads or writes the variable
abbrev pub is_access : ℕ → Op → Bool
is_access x op = is_read x op || is_write x op

-- whether the operation acquires the lock or releases it
abbrev pub is_on_lock : ℕ → Op → Bool
is_on_lock l op = is_acquire l op || is_release l op

-- Two events of different threads that access one variable, at least one a write.
pub record Clash (v w : Event) : Type 0 where
  pub threads : v.thread ≢ w.thread
  pub variable : ℕ
  pub first : is_access variable v.op ≡ true
  pub second : is_access variable w.op ≡ true
  pub writes : (is_write variable v.op || is_write variable w.op) ≡ true

-- events a and b conflict
pub record IsConflicting (T : List Event) (a b : ℕ) : Type 0 where
  pub v : Event
  pub w : Event
  pub first : slice_get T a ≡ Some v
  pub second : slice_get T b ≡ Some w
  pub clash : Clash v w

-- Two events that may swap wherever they are adjacent. They are of different threads, do not conflict, and are not on
-- one lock. Neither forks or joins the other's thread, and they are not the fork and the join of one thread.
pub record AreApart (v w : Event) : Type 0 where
  pub threads : v.thread ≢ w.thread
  pub no_clash : ¬ Clash v w
  pub no_lock : (l : ℕ) → is_on_lock l v.op ≡ true → is_on_lock l w.op ≢ true
  pub first_no_fork : v.op ≢ Fork w.thread
  pub first_no_join : v.op ≢ Join w.thread
  pub second_no_fork : w.op ≢ Fork v.thread
  pub second_no_join : w.op ≢ Join v.thread
  pub no_fork_and_join : (u : ℕ) → v.op ≡ Fork u → w.op ≢ Join u
  pub no_join_and_fork : (u : ℕ) → v.op ≡ Join u → w.op ≢ Fork u

-- events a and b are independent
pub record IsIndependent (T : List Event) (a b : ℕ) : Type 0 where
  pub v : Event
  pub w : Event
  pub first : slice_get T a ≡ Some v
  pub second : slice_get T b ≡ Some w
  pub apart : AreApart v w

-- whether two operations access one variable, and at least one writes it
abbrev pub is_clash_of_ops : Op → Op → Bool
is_clash_of_ops (Read x) other = is_write x other
is_clash_of_ops (Write x) other = is_access x other
is_clash_of_ops op other = false

-- whether two events are a `Clash`
abbrev pub is_clash : Event → Event → Bool
is_clash v w = not (v.thread == w.thread) && is_clash_of_ops v.op w.op

-- whether the operation forks or joins the thread
abbrev pub is_on_thread : ℕ → Op → Bool
is_on_thread u op = is_fork u op || is_join u op

-- whether two operations clash, are on one lock, or are the fork and the join of one thread
abbrev pub is_tie_of_ops : Op → Op → Bool
is_tie_of_ops (Read x) other = is_write x other
is_tie_of_ops (Write x) other = is_access x other
is_tie_of_ops (Acquire l) other = is_on_lock l other
is_tie_of_ops (Release l) other = is_on_lock l other
is_tie_of_ops (Fork u) other = is_join u other
is_tie_of_ops (Join u) other = is_fork u other

-- whether two events `AreApart`
abbrev pub is_apart : Event → Event → Bool
is_apart v w =
    not (v.thread == w.thread) && not (is_on_thread w.thread v.op) && not (is_on_thread v.thread w.op) && not (is_tie_of_ops v.op w.op)

abbrev pub pass_both : (Event → Event → Bool) → Option Event → Option Event → Bool
pass_both test (Some v) (Some w) = test v w
pass_both test v w = false

-- whether both events exist, and they conflict
abbrev pub is_conflict : List Event → ℕ → ℕ → Bool
is_conflict T a b = pass_both is_clash (slice_get T a) (slice_get T b)

-- whether both events exist, and they are independent
abbrev pub is_independent : List Event → ℕ → ℕ → Bool
is_independent T a b = pass_both is_apart (slice_get T a) (slice_get T b)
