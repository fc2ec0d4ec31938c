use Rattle.std.proofs.Common.{◌≡◌, ◌++◌}
use Rattle.window.specs.Tables.{all_takes}
use Rattle.window.proofs.leaving.add_holds.Given as goal

abbrev pub invariant-loop-lock : goal.invariant-loop-lock
invariant-loop-lock l = l.events.items ≡ l.fn.events.items ++ all_takes l.held.items l.lock
