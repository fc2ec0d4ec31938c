-- What a file in memory shows.
use Rattle.std.specs.Prelude.{ℕ, List, Vec}
use Rattle.std.specs.declared.alloc.Global.{Global}
use Rattle.kept_log.specs.declared.memory.Memory.{Memory}

-- its bytes
abbrev pub memory_bytes : Memory → List ℕ
memory_bytes m = m.bytes.items

-- what it held before, the oldest first
abbrev pub memory_past : Memory → List (Vec ℕ Global)
memory_past m = m.past.items

-- what it held each time that its lock was taken, the oldest first
abbrev pub memory_found : Memory → List (Vec ℕ Global)
memory_found m = m.found.items
