-- Tests on an operation.
use Rattle.std.specs.Prelude.{ℕ, Bool, false, ◌==◌}
use Rattle.rapid_text.specs.declared.event.Op.{Op}
use Rattle.rapid_text.specs.declared.event.Op.TheVariants.{Read, Write, Acquire, Release, Fork, Join}

-- whether the operation reads the variable x
abbrev pub is_read : ℕ → Op → Bool
is_read x (Read y) = y == x
is_read x op = false

-- whether the operation writes the variable x
abbrev pub is_write : ℕ → Op → Bool
is_write x (Write y) = y == x
is_write x op = false

-- whether the operation acquires the lock l
abbrev pub is_acquire : ℕ → Op → Bool
is_acquire l (Acquire m) = m == l
is_acquire l op = false

-- whether the operation releases the lock l
abbrev pub is_release : ℕ → Op → Bool
is_release l (Release m) = m == l
is_release l op = false

-- whether the operation forks the thread u
abbrev pub is_fork : ℕ → Op → Bool
is_fork u (Fork v) = v == u
is_fork u op = false

-- whether the operation joins the thread u
abbrev pub is_join : ℕ → Op → Bool
is_join u (Join v) = v == u
is_join u op = false
