use Rattle.window.proofs.ApartLemmas.{apart_window_law}
use Rattle.window.proofs.laws.apart_in_window.Goals as goal

pub returns : goal.returns
returns c = apart_window_law
