use Rattle.window.proofs.StreamLemmas.{breaks_law}
use Rattle.window.proofs.laws.stream_breaks.Goals as goal

pub returns : goal.returns
returns c = breaks_law
