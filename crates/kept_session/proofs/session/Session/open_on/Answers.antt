use Rattle.std.proofs.Common.{inl, inr, ⊎_elim}
use Rattle.kept_session.proofs.WholeLemmas.{if_ok_both, if_err_both, taken-begun, taken-kept}
use Rattle.kept_session.proofs.session.Session.open_on.Goals as goal

pub returns-in-Ok-clause-any_moment : goal.returns-in-Ok-clause-any_moment
returns-in-Ok-clause-any_moment g c =
    let opened = c.in-Ok.ensures in
    if_ok_both _ _ _
    (λ s last more. taken-begun g.D.Device c.args.head.now c.in-Ok.bytes.items _ _ c.args.device c.in-Ok.log.device s.log.device
    opened.any_moment opened.found opened.head opened.lines last more)
    c.begin-begun.result c.begin-begun.ensures.found c.begin-begun.ensures.any_moment

pub returns-in-Ok-clause-any_moment_err : goal.returns-in-Ok-clause-any_moment_err
returns-in-Ok-clause-any_moment_err g c =
    let opened = c.in-Ok.ensures in
    if_err_both _ _ _
    (λ e last more. inr (taken-begun g.D.Device c.args.head.now c.in-Ok.bytes.items _ _ c.args.device c.in-Ok.log.device e.1
    opened.any_moment opened.found opened.head opened.lines last more))
    c.begin-begun.result c.begin-begun.ensures.found_err c.begin-begun.ensures.any_moment_err

pub returns-in-Err-clause-any_moment_err : goal.returns-in-Err-clause-any_moment_err
returns-in-Err-clause-any_moment_err g c =
    ⊎_elim (λ untaken. inl untaken) (λ taken. inr (taken-kept g.D.Device c.args.head.now c.args.device c.in-Err.refused.1 taken))
    c.in-Err.ensures.any_moment_err
