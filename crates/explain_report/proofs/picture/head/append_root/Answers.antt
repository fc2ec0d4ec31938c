use Rattle.explain_report.proofs.picture.PieceLemmas.{six_pieces}
use Rattle.explain_report.proofs.picture.head.append_root.Goals as goal

pub returns : goal.returns
returns c =
    six_pieces c.args.out.now.items _ _ _ _ _ c.in_ok-append_words.ensures c.in_ok-append_point.ensures _ _ _ _ _ _ _ c.in_ok-append_words-2.ensures
    c.in_ok-append_attribute.ensures c.in_ok-append_attribute-2.ensures c.in_ok-append_words-3.ensures
