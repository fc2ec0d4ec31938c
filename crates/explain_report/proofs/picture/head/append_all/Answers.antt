use Rattle.explain_report.proofs.picture.PieceLemmas.{three_pieces}
use Rattle.explain_report.proofs.picture.head.append_all.Goals as goal

pub returns : goal.returns
returns c = three_pieces c.args.out.now.items _ _ _ _ _ c.in_ok-append_words.ensures c.in_ok-append_events.ensures _ c.in_ok-append_words-2.ensures
