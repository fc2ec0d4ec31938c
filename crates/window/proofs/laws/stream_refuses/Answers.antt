use Rattle.window.proofs.RefusalLemmas.{refuses_law}
use Rattle.window.proofs.laws.stream_refuses.Goals as goal

pub returns : goal.returns
returns c = refuses_law
