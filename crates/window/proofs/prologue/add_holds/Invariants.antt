use Rattle.std.proofs.Common.{◌≡◌, ◌++◌, replicate}
use Rattle.window.proofs.prologue.add_holds.Given as goal

abbrev pub invariant-loop-taken : goal.invariant-loop-taken
invariant-loop-taken l = l.holds.items ≡ l.fn.holds.items ++ replicate l._taken (l.held.thread, l.lock)
