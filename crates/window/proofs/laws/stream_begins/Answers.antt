use Rattle.window.proofs.StreamLemmas.{begins_law}
use Rattle.window.proofs.laws.stream_begins.Goals as goal

pub returns : goal.returns
returns c = begins_law
