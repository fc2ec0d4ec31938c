use Rattle.std.proofs.Common.{subst, IfErr}
use Rattle.uses_report.specs.Between.{AreTooMany}
use Rattle.uses_report.proofs.between.text_of.Goals as goal

pub returns-in-Ok-clause-fault : goal.returns-in-Ok-clause-fault
returns-in-Ok-clause-fault c = subst (λ r. IfErr c.text_in.result (AreTooMany r c.args.chosen.now)) c.in-Ok.ensures c.text_in.ensures.fault
