use Rattle.explain_report.specs.declared.picture.class.Class.TheVariants.{Name}
use Rattle.explain_report.specs.picture.Boxes.{top_text}
use Rattle.explain_report.proofs.picture.BoxLemmas.{whole_of}
use Rattle.explain_report.proofs.picture.PieceLemmas.{eight_pieces}
use Rattle.explain_report.proofs.picture.drawing.draw_top_line.Goals as goal

pub returns : goal.returns
returns c =
    whole_of Name (top_text c.args.runs c.args.events c.args.pair.0 c.args.pair.1) _ _ _ _ _ c.new-text.ensures.items c.as_slice.ensures.value
    (eight_pieces _ _ _ _ _ _ (simp c.from.ensures at c.in_ok-append_number.ensures) c.in_ok-append_words.ensures _ _ _ _ _ _ _ _ _ _ _ (simp c.from-2.ensures at c.in_ok-append_number-2.ensures) c.in_ok-append_words-2.ensures
    c.in_ok-append_count.ensures c.in_ok-append_words-3.ensures c.in_ok-append_count-2.ensures c.in_ok-append_words-4.ensures)
    c.in_ok-line.ensures
