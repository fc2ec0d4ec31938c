use Rattle.std.proofs.Common.{rules, subst}
use Rattle.calls.specs.Jobs.{AnswerJobs}
use Rattle.calls.proofs.beside.run_searched.Goals as goal

pub returns-clause-told : goal.returns-clause-told
returns-clause-told g c =
    let told = c.in_ok-told.field-0.items in
    let jobs = c.args.jobs.items in
    let met : AnswerJobs c.deref.result.now jobs told = search rules in
    subst (λ trace. AnswerJobs trace jobs told) c.deref.ensures met
