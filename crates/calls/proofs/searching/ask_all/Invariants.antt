use Rattle.std.specs.Prelude.{◌≡◌}
use Rattle.calls.specs.Requests.{AreSlices}
use Rattle.calls.proofs.searching.ask_all.Given as goal

-- what was submitted are slices of the pairs
abbrev pub invariant-loop-pair : goal.invariant-loop-pair
invariant-loop-pair g l = (l.pool.trace ≡ l.fn.pool.trace) × AreSlices l.pairs l.pool.pending
