use Rattle.std.proofs.Common.{refl}
use Rattle.std.proofs.lemmas.Result.{on_ok_weaker}
use Rattle.deadlock_report.proofs.PieceLemmas.{two_pieces}
use Rattle.deadlock_report.proofs.explained.append_waits.Goals as goal

pub returns : goal.returns
returns c =
    let one = c.in_ok-append_wait.ensures in
    on_ok_weaker c.append_wait-2.result
    (λ other. (_, two_pieces c.args.out.now.items one.0 other.0 _ _ one.1 other.1, (one.0, other.0, one.2, other.2, refl)))
    c.append_wait-2.ensures
