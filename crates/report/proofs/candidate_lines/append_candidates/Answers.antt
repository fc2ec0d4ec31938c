-- The number of the pairs and their lines are the whole text.
use Rattle.std.proofs.Common.{◌++◌, List, ℕ, length, codes, take_all, append_assoc, ap, ◌∙◌, arith}
use Rattle.report.specs.Candidates.{candidates_text, candidate_lines}
use Rattle.report.specs.Info.{count_line}
use Rattle.report.proofs.candidate_lines.append_candidates.Goals as goal

pub returns : goal.returns
unfolding candidates_text
returns c =
    let r = c.args.indexed.now in
    let pairs = c.args.pairs.now in
    let total = count_line (codes "candidates") (length pairs) in
    c.loop-pair.invariant
    ∙ ap (λ (listed : List (ℕ × ℕ)). c.args.out.now.items ++ total ++ candidate_lines r listed) (take_all c.loop-pair.pair-index pairs (omega arith))
    ∙ append_assoc c.args.out.now.items total (candidate_lines r pairs)
