use Rattle.window.proofs.SummaryLemmas.{goes_law}
use Rattle.window.proofs.laws.stream_goes_on.Goals as goal

pub returns : goal.returns
returns c = goes_law
