use Rattle.std.proofs.Common.{ℕ, ◌<◌, get_or}
use Rattle.must_order.specs.Layout.{IsCounted}
use Rattle.lock_waits.proofs.requiring.counts_one_of.Given as goal

abbrev pub invariant-loop-at : goal.invariant-loop-at
invariant-loop-at l = (i : ℕ) → i < l.at → ¬ IsCounted l.indexed.events (λ t. get_or l.row t 0) (get_or l.events i 0)
