-- The pairs so far stand there.
use Rattle.std.proofs.Common.{◌≡◌, ◌++◌, take}
use Rattle.report.specs.Pieces.{spaced_pairs}
use Rattle.report.proofs.pieces.append_pairs.Given as goal

abbrev pub invariant-loop-pair : goal.invariant-loop-pair
invariant-loop-pair l = l.out.items ≡ l.fn.out.items ++ spaced_pairs (take l.pair-index l.pairs)
