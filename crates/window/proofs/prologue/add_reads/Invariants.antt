use Rattle.std.proofs.Common.{◌≡◌, ◌++◌, take}
use Rattle.window.specs.Made.{reads_of}
use Rattle.window.proofs.prologue.add_reads.Given as goal

abbrev pub invariant-loop-at : goal.invariant-loop-at
invariant-loop-at l = l.events.items ≡ l.fn.events.items ++ reads_of l.variable l.own (take l.at l.readers)
