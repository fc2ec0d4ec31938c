-- Events by their numbers. `T` is the events of a trace.
use Rattle.std.specs.Prelude.{ℕ, Bool, false, ◌==◌, List, Option, Some, None, slice_get, option_map}
use Rattle.rapid_text.specs.Operations.{is_read, is_write, is_fork, is_join}
use Rattle.rapid_text.specs.declared.event.Event.{Event}
use Rattle.rapid_text.specs.declared.event.Op.{Op}

-- what the event does
abbrev pub op_at : List Event → ℕ → Option Op
op_at T e = option_map (λ v. v.op) (slice_get T e)

-- the thread of the event
abbrev pub thread_at : List Event → ℕ → Option ℕ
thread_at T e = option_map (λ v. v.thread) (slice_get T e)

abbrev pub passes_by : (Event → Bool) → Option Event → Bool
passes_by test None = false
passes_by test (Some v) = test v

-- whether event e exists and passes the test
abbrev pub passes_at : (Event → Bool) → List Event → ℕ → Bool
passes_at test T e = passes_by test (slice_get T e)

-- whether the event is of the thread
abbrev pub is_of_thread : List Event → ℕ → ℕ → Bool
is_of_thread T t e = passes_at (λ v. v.thread == t) T e

-- whether the event reads the variable, writes it, forks the thread, joins it
abbrev pub is_read_at : List Event → ℕ → ℕ → Bool
is_read_at T x e = passes_at (λ v. is_read x v.op) T e

abbrev pub is_write_at : List Event → ℕ → ℕ → Bool
is_write_at T x e = passes_at (λ v. is_write x v.op) T e

abbrev pub is_fork_at : List Event → ℕ → ℕ → Bool
is_fork_at T u e = passes_at (λ v. is_fork u v.op) T e

abbrev pub is_join_at : List Event → ℕ → ℕ → Bool
is_join_at T u e = passes_at (λ v. is_join u v.op) T e
