use Rattle.std.proofs.Common.{refl, subst}
use Rattle.std.proofs.lemmas.Result.{on_ok_weaker}
use Rattle.rapid_text.specs.Recording.{Recording}
use Rattle.explain_report.specs.RunTexts.{AreRunsTold}
use Rattle.deadlock_report.proofs.PieceLemmas.{two_pieces}
use Rattle.deadlock_report.proofs.explained.append_end.Goals as goal

pub returns : goal.returns
returns c =
    let runs = c.in_ok-append_runs.ensures in
    let told = subst (λ (r : Recording). AreRunsTold r c.args.events.now c.args.all runs.0) c.indexed.ensures runs.2 in
    on_ok_weaker c.append_waits.result
    (λ waits. (_, two_pieces c.args.out.now.items runs.0 waits.0 _ _ runs.1 waits.1, (runs.0, waits.0, told, waits.2, refl)))
    c.append_waits.ensures
