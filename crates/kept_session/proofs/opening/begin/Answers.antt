use Rattle.kept_session.proofs.WholeLemmas.{rest_begins}
use Rattle.kept_session.proofs.opening.begin.Goals as goal

pub returns-in-Err-clause-any_moment_err : goal.returns-in-Err-clause-any_moment_err
returns-in-Err-clause-any_moment_err g c =
    rest_begins g.D.Device c.args.log c.requires.at_rest (λ f left. g.met.D.Device.only_now c.args.log.device f left)
