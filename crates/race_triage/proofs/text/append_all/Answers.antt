use Rattle.std.proofs.Common.{◌≡◌, ◌++◌, List, codes, ap, ◌∙◌}
use Rattle.race_triage.specs.Texts.{block_texts, left_out_text, totals_text}
use Rattle.race_triage.specs.declared.verdicts.Verdict.{Verdict}
use Rattle.race_triage.proofs.PieceLemmas.{four_pieces}
use Rattle.race_triage.proofs.text.append_all.Goals as goal

pub returns : goal.returns
returns c =
    let r = c.args.indexed.now in
    let told = c.args.chosen.now in
    let totals = c.append_totals.new.out.items in
    let blocks : c.append_blocks.new.out.items ≡ totals ++ block_texts r told.verdicts.items =
    c.in_ok-append_blocks.ensures ∙ ap (λ (vs : List Verdict). totals ++ block_texts r vs) c.as_slice.ensures.value in
    four_pieces c.args.out.now.items totals c.append_blocks.new.out.items (totals_text c.args.totals.now) (block_texts r told.verdicts.items) (left_out_text (codes "known") told.known)
    c.in_ok-append_totals.ensures blocks c.append_left_out.new.out.items c.append_left_out-2.new.out.items (left_out_text (codes "hidden") told.hidden)
    c.in_ok-append_left_out.ensures c.in_ok-append_left_out-2.ensures
