-- So far the names of those locks were written.
use Rattle.std.proofs.Common.{◌≡◌, ◌++◌, take}
use Rattle.race_page.specs.Told.{more_locks}
use Rattle.race_page.proofs.accesses.write_more.Given as goal

abbrev pub invariant-loop-lock : goal.invariant-loop-lock
invariant-loop-lock l = l.piece ≡ l.fn.piece ++ more_locks l.indexed (take l.lock-index l.locks)
