use Rattle.window.proofs.CutLemmas.{cut_law}
use Rattle.window.proofs.laws.cut_reads_as_window.Goals as goal

pub returns : goal.returns
returns c = cut_law
