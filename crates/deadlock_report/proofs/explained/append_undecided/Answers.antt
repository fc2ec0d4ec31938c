use Rattle.std.proofs.Common.{refl}
use Rattle.std.proofs.lemmas.Result.{on_ok_weaker}
use Rattle.explain_report.specs.Verdicts.{undecided_head}
use Rattle.deadlock_report.specs.Explained.{requests_text}
use Rattle.deadlock_report.proofs.PieceLemmas.{two_pieces}
use Rattle.deadlock_report.proofs.explained.append_undecided.Goals as goal

pub returns : goal.returns
returns c =
    let asked = requests_text c.args.analysis.now c.args.first c.args.second in
    on_ok_weaker c.append_requests.result
    (λ added. (_, two_pieces c.args.out.now.items undecided_head asked _ _ c.in_ok-append_head.ensures added, (c.requires, refl)))
    c.append_requests.ensures
