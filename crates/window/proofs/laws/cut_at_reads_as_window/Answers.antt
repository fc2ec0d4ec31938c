use Rattle.window.proofs.CutLemmas.{cut_at_law}
use Rattle.window.proofs.laws.cut_at_reads_as_window.Goals as goal

pub returns : goal.returns
returns c = cut_at_law
