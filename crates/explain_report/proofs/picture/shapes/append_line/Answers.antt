use Rattle.std.proofs.lemmas.Result.{on_ok_weaker}
use Rattle.explain_report.proofs.picture.PieceLemmas.{four_pieces}
use Rattle.explain_report.proofs.picture.shapes.append_line.Goals as goal

pub returns : goal.returns
returns c =
    on_ok_weaker c.append_words-2.result
    (λ words. four_pieces c.args.out.now.items _ _ _ _ _ c.in_ok-append_begin.ensures c.in_ok-append_words.ensures _ _ _ c.in_ok-escape.ensures.ok words)
    c.append_words-2.ensures
