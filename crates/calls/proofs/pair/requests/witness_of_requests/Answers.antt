use Rattle.std.specs.Prelude.{IfErr}
use Rattle.rapid_text.specs.Recording.{Recording}
use Rattle.calls.specs.pair.Answers.{IsUnwitnessed}
use Rattle.std.proofs.Common.{subst}
use Rattle.calls.proofs.pair.requests.witness_of_requests.Goals as goal

pub returns-in-Ok-clause-fault : goal.returns-in-Ok-clause-fault
returns-in-Ok-clause-fault c =
    subst (λ (r : Recording). IfErr c.witness_in.result (IsUnwitnessed r c.args.one c.args.other)) c.in-Ok.ensures c.witness_in.ensures.fault
