use Rattle.std.proofs.Common.{◌≡◌, ◌++◌, List, codes, ap, ◌∙◌}
use Rattle.triage_report.specs.json.Lines.{json_line, left_out_line}
use Rattle.deadlock_triage.specs.declared.outcomes.Verdict.{Verdict}
use Rattle.deadlock_report.specs.json.Lines.{verdict_lines}
use Rattle.deadlock_report.specs.json.Objects.{counts_object}
use Rattle.deadlock_report.proofs.PieceLemmas.{four_pieces}
use Rattle.deadlock_report.proofs.json.lines.append_all.Goals as goal

pub returns : goal.returns
returns c =
    let r = c.args.analysis.now in
    let told = c.args.chosen.now in
    let counted = c.append_counts.new.out.items in
    let listed : c.append_verdicts.new.out.items ≡ counted ++ verdict_lines r told.verdicts.items =
    c.in_ok-append_verdicts.ensures ∙ ap (λ (vs : List Verdict). counted ++ verdict_lines r vs) c.as_slice.ensures.value in
    four_pieces c.args.out.now.items counted c.append_verdicts.new.out.items c.append_left_out.new.out.items
    c.append_left_out-2.new.out.items (json_line (counts_object c.args.counts.now)) (verdict_lines r told.verdicts.items)
    (left_out_line (codes "known") told.known) (left_out_line (codes "hidden") told.hidden)
    c.in_ok-append_counts.ensures listed c.in_ok-append_left_out.ensures c.in_ok-append_left_out-2.ensures
