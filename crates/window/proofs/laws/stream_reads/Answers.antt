use Rattle.window.proofs.RefusalLemmas.{reads_law}
use Rattle.window.proofs.laws.stream_reads.Goals as goal

pub returns : goal.returns
returns c = reads_law
