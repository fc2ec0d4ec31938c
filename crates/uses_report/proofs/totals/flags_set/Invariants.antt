-- The count so far is that of the flags so far.
use Rattle.std.proofs.Common.{◌≡◌, take}
use Rattle.uses_report.specs.Totals.{flags_set}
use Rattle.uses_report.proofs.totals.flags_set.Given as goal

abbrev pub invariant-loop-flag : goal.invariant-loop-flag
invariant-loop-flag l = l.count ≡ flags_set (take l.flag-index l.flags)
