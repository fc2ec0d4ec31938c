-- So far those verdicts were kept that are of the sort.
use Rattle.std.proofs.Common.{◌≡◌, take}
use Rattle.std.specs.List.{filter}
use Rattle.race_page.specs.Rows.{is_of}
use Rattle.race_page.proofs.selecting.keep_sort.Given as goal

abbrev pub invariant-loop-verdict : goal.invariant-loop-verdict
invariant-loop-verdict l = l.kept.items ≡ filter (is_of l.sort) (take l.verdict-index l.told)
