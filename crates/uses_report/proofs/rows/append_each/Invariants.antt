-- The lines so far are those of the locks so far.
use Rattle.std.proofs.Common.{◌≡◌, ◌++◌, flat_map, take}
use Rattle.uses_report.specs.Texts.{held_line}
use Rattle.uses_report.proofs.rows.append_each.Given as goal

abbrev pub invariant-loop-lock : goal.invariant-loop-lock
invariant-loop-lock l = l.out.items ≡ l.fn.out.items ++ flat_map (held_line l.indexed l.all) (take l.lock-index l.locks)
