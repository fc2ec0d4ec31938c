use Rattle.explain_report.proofs.picture.BoxLemmas.{cut_line}
use Rattle.explain_report.proofs.picture.labels.draw_line.Goals as goal

pub returns : goal.returns
returns c = cut_line c.args.class c.args.text.now _ _ _ _ _ c.new-line.ensures.items c.as_slice.ensures.value c.in_ok-append_cut.ensures c.in_ok-line.ensures
