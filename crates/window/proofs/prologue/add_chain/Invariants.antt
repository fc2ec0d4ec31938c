use Rattle.std.proofs.Common.{◌≡◌, ◌++◌, take}
use Rattle.window.specs.Made.{chain_of}
use Rattle.window.proofs.prologue.add_chain.Given as goal

abbrev pub invariant-loop-at : goal.invariant-loop-at
invariant-loop-at l = l.events.items ≡ l.fn.events.items ++ chain_of l.variable l.own (take l.at l.holds)
