use Rattle.kept_session.proofs.QuestionOkLemmas.{then-ok}
use Rattle.kept_session.proofs.questions.witnesses.append_pair.Goals as goal

pub returns-in-Ok : goal.returns-in-Ok
returns-in-Ok c = then-ok c.append_found.result (λ told. (c.in-Ok.finding, c.in-Ok.ensures.finding, c.in-Ok.ensures.never, told)) c.append_found.ensures
