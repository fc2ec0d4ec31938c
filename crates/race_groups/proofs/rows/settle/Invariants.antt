use Rattle.std.proofs.Common.{◌≡◌}
use Rattle.indexmap.specs.IndexMap.{with_entries}
use Rattle.race_groups.proofs.SettledLemmas.{settled}
use Rattle.race_groups.proofs.rows.settle.Given as goal

abbrev pub invariant-loop-at : goal.invariant-loop-at
invariant-loop-at l = l.rows ≡ with_entries l.fn.rows (settled l.waiting.cells.items l.at l.fn.rows.entries)
