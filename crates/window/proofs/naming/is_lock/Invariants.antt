use Rattle.std.proofs.Common.{◌≡◌, false, take, bytes_eq}
use Rattle.std.specs.List.{list_any}
use Rattle.window.proofs.naming.is_lock.Given as goal

abbrev pub invariant-loop-lock : goal.invariant-loop-lock
invariant-loop-lock l = list_any (bytes_eq l.name) (take l.lock l.trace.locks) ≡ false
