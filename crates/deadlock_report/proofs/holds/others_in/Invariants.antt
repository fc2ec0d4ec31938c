-- The locks so far are the other ones of those so far.
use Rattle.std.proofs.Common.{◌≡◌, filter, take}
use Rattle.deadlock_report.specs.Holds.{is_other}
use Rattle.deadlock_report.proofs.holds.others_in.Given as goal

abbrev pub invariant-loop-lock : goal.invariant-loop-lock
invariant-loop-lock l = l.others.items ≡ filter (is_other l.but) (take l.lock-index l.locks)
