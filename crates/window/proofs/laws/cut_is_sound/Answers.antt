use Rattle.window.proofs.CutLemmas.{cut_sound_law}
use Rattle.window.proofs.laws.cut_is_sound.Goals as goal

pub returns : goal.returns
returns c = cut_sound_law
