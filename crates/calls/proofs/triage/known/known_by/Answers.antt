use Rattle.std.proofs.lemmas.Result.{IfOk-weaker}
use Rattle.race_triage.specs.Chosen.{known_places}
use Rattle.calls.proofs.triage.known.known_by.Goals as goal

pub returns-in-Ok : goal.returns-in-Ok
returns-in-Ok c = IfOk-weaker c.known_with.result _ _ (λ all is. (known_places c.in-Ok.known, c.in-Ok.ensures, is)) c.known_with.ensures
