use Rattle.std.proofs.Common.{◌++◌, ℕ, length, ap, ◌∙◌}
use Rattle.rapid_text.specs.Recording.{Recording}
use Rattle.explain_report.specs.Runs.{run_total}
use Rattle.deadlock_report.specs.Explained.{deadlock_head, requests_text}
use Rattle.deadlock_report.proofs.PieceLemmas.{three_pieces}
use Rattle.deadlock_report.proofs.explained.append_shown.Goals as goal

pub returns : goal.returns
returns c =
    let r = c.args.analysis.now in
    let P = c.args.events.now in
    let how = c.how_of-how.result in
    let asked = requests_text r c.args.pair.0 c.args.pair.1 in
    let rest = c.in_ok-append_end.ensures in
    let runs = c.in_ok-runs.ensures ∙ ap (λ (q : Recording). run_total q P) c.indexed.ensures in (
      _,
      three_pieces c.args.out.now.items _ asked rest.0 _ _ _ c.in_ok-append_deadlock_head.ensures c.in_ok-append_requests.ensures rest.1,
      (how, rest.0, c.how_of-how.ensures, rest.2, ap (λ (n : ℕ). deadlock_head how (length P) n ++ asked ++ rest.0) runs),
    )
