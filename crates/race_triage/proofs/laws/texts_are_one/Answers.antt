use Rattle.race_triage.proofs.SameLemmas.{texts_law}
use Rattle.race_triage.proofs.laws.texts_are_one.Goals as goal

pub returns : goal.returns
returns c = texts_law
