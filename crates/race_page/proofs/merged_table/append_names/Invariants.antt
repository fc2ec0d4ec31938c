-- So far the names of those locks stand there.
use Rattle.std.proofs.Common.{◌≡◌, ◌++◌, take}
use Rattle.race_page.specs.MergedTable.{lock_names}
use Rattle.race_page.proofs.merged_table.append_names.Given as goal

abbrev pub invariant-loop-lock : goal.invariant-loop-lock
invariant-loop-lock l = l.out.items ≡ l.fn.out.items ++ lock_names (take l.lock-index l.locks)
