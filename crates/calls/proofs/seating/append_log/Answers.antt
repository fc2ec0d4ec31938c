use Rattle.std.proofs.lemmas.Result.{on_ok_weaker}
use Rattle.calls.proofs.seating.append_log.Goals as goal

pub returns-in-Ok : goal.returns-in-Ok
returns-in-Ok c = on_ok_weaker c.append_log_of.result (λ text. (c.in-Ok.bench, c.in-Ok.ensures.ok.0, text)) c.append_log_of.ensures
