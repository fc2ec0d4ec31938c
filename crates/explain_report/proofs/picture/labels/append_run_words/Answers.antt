use Rattle.explain_report.proofs.picture.PieceLemmas.{six_pieces}
use Rattle.explain_report.proofs.picture.labels.append_run_words.Goals as goal

pub returns : goal.returns
returns c =
    six_pieces c.args.out.now.items _ _ _ _ _ c.in_ok-append_words.ensures c.in_ok-append_number.ensures _ _ _ _ _ _ _ c.in_ok-append_words-2.ensures
    (simp (c.from.ensures, c.event_total.ensures) at c.in_ok-append_count.ensures) c.in_ok-append_words-3.ensures c.in_ok-append_thread.ensures
