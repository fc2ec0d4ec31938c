use Rattle.window.proofs.ApartLemmas.{prologue_law}
use Rattle.window.proofs.laws.prologue_is_apart.Goals as goal

pub returns : goal.returns
returns c = prologue_law
