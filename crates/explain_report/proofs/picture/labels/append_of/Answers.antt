use Rattle.explain_report.proofs.picture.PieceLemmas.{five_pieces}
use Rattle.explain_report.proofs.picture.labels.append_of.Goals as goal

pub returns : goal.returns
returns c =
    five_pieces _ _ _ _ _ _ (simp c.from.ensures at c.in_ok-append_number.ensures) c.in_ok-append_words.ensures _ _ _ _ _ c.in_ok-append_operation.ensures
    c.in_ok-append_words-2.ensures c.in_ok-append_words-3.ensures
