use Rattle.std.proofs.lemmas.Result.{on_ok_weaker}
use Rattle.explain_report.proofs.PieceLemmas.{four_pieces}
use Rattle.explain_report.proofs.chains.append_later_line.Goals as goal

pub returns : goal.returns
returns c =
    on_ok_weaker c.append_line.result
    (λ line. four_pieces c.args.out.now.items _ _ _ _ _ c.in_ok-append_indent.ensures c.in_ok-append_words.ensures _ _ _ c.in_ok-append_indent-2.ensures line)
    c.append_line.ensures
