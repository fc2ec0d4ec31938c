-- So far the rows of those pairs stand there.
use Rattle.std.proofs.Common.{◌≡◌, ◌++◌, take}
use Rattle.race_page.specs.MergedRows.{rows_text}
use Rattle.race_page.proofs.merged_rows.append_rows.Given as goal

abbrev pub invariant-loop-pair : goal.invariant-loop-pair
invariant-loop-pair l = l.out.items ≡ l.fn.out.items ++ rows_text l.parts (take l.pair-index l.pairs)
