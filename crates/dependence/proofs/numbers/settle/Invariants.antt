use Rattle.std.proofs.Common.{◌≡◌, ◌++◌, take}
use Rattle.dependence.proofs.numbers.settle.Given as goal

abbrev pub invariant-loop-number : goal.invariant-loop-number
invariant-loop-number l = (l.settled.keys ≡ l.fn.settled.keys ++ take l.number-index l.fn.tail.items) × (l.moved ≡ l.number-index) × (l.number-items ≡ l.fn.tail.items)
