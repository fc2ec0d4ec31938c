-- The page is of the same trace, and the rows so far are those of the verdicts so far.
use Rattle.std.proofs.Common.{◌≡◌, ◌++◌, map, take}
use Rattle.race_page.specs.Rows.{followed_in, row_of}
use Rattle.race_page.proofs.rows.write_rows.Given as goal

abbrev pub invariant-loop-at : goal.invariant-loop-at
invariant-loop-at l = (l.page.trace ≡ l.fn.page.trace) × (l.page.rows ≡ l.fn.page.rows ++ map (row_of l.fn.page.trace (followed_in l.fn.about)) (take l.at l.kept))
