use Rattle.std.proofs.Common.{◌≡◌, filter, take}
use Rattle.race_groups.specs.Takers.{is_lent}
use Rattle.race_groups.proofs.takers.keep_lent.Given as goal

abbrev pub invariant-loop-lock : goal.invariant-loop-lock
invariant-loop-lock l = l.kept.items ≡ filter (is_lent l.takers l.threads) (take l.lock-index l.locks)
