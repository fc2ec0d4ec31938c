use Rattle.std.specs.Prelude.{IfErr}
use Rattle.rapid_text.specs.Recording.{Recording}
use Rattle.calls.specs.pair.Answers.{IsUnwitnessed}
use Rattle.std.proofs.Common.{subst}
use Rattle.calls.proofs.pair.witnessing.witness_by_orders.Goals as goal

pub returns-in-Ok-clause-fault : goal.returns-in-Ok-clause-fault
returns-in-Ok-clause-fault c =
    subst (λ (r : Recording). IfErr c.witness_of_pair.result (IsUnwitnessed r c.args.one c.args.other)) c.in-Ok.ensures c.witness_of_pair.ensures.fault
