use Rattle.std.proofs.Common.{◌++◌, List, ℕ, ap, ◌∙◌}
use Rattle.deadlock_triage.specs.declared.outcomes.Verdict.{Verdict}
use Rattle.deadlock_report.specs.Texts.{counts_text, left_out_lines, verdict_blocks}
use Rattle.deadlock_report.proofs.PieceLemmas.{three_pieces}
use Rattle.deadlock_report.proofs.text.append_all.Goals as goal

pub returns : goal.returns
returns c =
    let r = c.args.analysis.now in
    let old : List ℕ = c.args.out.now.items in
    let counts : List ℕ = counts_text c.args.counts.now in
    let blocks : List ℕ = verdict_blocks r c.args.chosen.now.verdicts.items in
    let lines : List ℕ = left_out_lines c.args.chosen.now in
    let counted : List ℕ = c.append_counts.new.out.items in
    three_pieces old counts blocks lines counted c.append_verdicts.new.out.items c.append_lines.new.out.items c.in_ok-append_counts.ensures
    (c.in_ok-append_verdicts.ensures ∙ ap (λ (vs : List Verdict). counted ++ verdict_blocks r vs) c.as_slice.ensures.value) c.in_ok-append_lines.ensures
