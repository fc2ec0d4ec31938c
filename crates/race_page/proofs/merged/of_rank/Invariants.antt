-- So far those pairs were kept that are of the rank.
use Rattle.std.proofs.Common.{◌≡◌, take}
use Rattle.std.specs.List.{filter}
use Rattle.race_page.specs.Merged.{has_rank}
use Rattle.race_page.proofs.merged.of_rank.Given as goal

abbrev pub invariant-loop-pair : goal.invariant-loop-pair
invariant-loop-pair l = l.kept.items ≡ filter (has_rank l.rank) (take l.pair-index l.pairs)
