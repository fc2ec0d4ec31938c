use Rattle.explain_report.proofs.RacedLemmas.{candidates_told}
use Rattle.explain_report.proofs.raced.candidates_are_told.Goals as goal

pub returns : goal.returns
returns c = candidates_told
