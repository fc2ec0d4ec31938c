use Rattle.std.proofs.Common.{◌≡◌, ◌++◌, replicate}
use Rattle.rapid_text.specs.declared.event.Op.TheVariants.{Acquire}
use Rattle.window.specs.Made.{does}
use Rattle.window.proofs.leaving.add_takes.Given as goal

abbrev pub invariant-loop-taken : goal.invariant-loop-taken
invariant-loop-taken l = l.events.items ≡ l.fn.events.items ++ replicate l._taken (does l.held.thread (Acquire l.lock))
