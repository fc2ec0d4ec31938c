use Rattle.race_triage.proofs.SameLemmas.{one_law}
use Rattle.race_triage.proofs.laws.verdicts_are_one.Goals as goal

pub returns : goal.returns
returns c = one_law
