-- The lines so far are those of the number and of the pairs so far.
use Rattle.std.proofs.Common.{◌≡◌, ◌++◌, take, length, codes}
use Rattle.report.specs.Candidates.{candidate_lines}
use Rattle.report.specs.Info.{count_line}
use Rattle.report.proofs.candidate_lines.append_candidates.Given as goal

abbrev pub invariant-loop-pair : goal.invariant-loop-pair
invariant-loop-pair l =
    l.out.items ≡ l.fn.out.items ++ count_line (codes "candidates") (length l.pairs) ++ candidate_lines l.indexed (take l.pair-index l.pairs)
