use Rattle.race_triage.proofs.CountLemmas.{totals_law}
use Rattle.race_triage.proofs.laws.totals_are_of_the_trace.Goals as goal

pub returns : goal.returns
returns c = totals_law
