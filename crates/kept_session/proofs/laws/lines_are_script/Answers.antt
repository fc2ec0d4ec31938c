use Rattle.kept_session.proofs.ReplayLemmas.{script_law}
use Rattle.kept_session.proofs.laws.lines_are_script.Goals as goal

pub returns : goal.returns
returns c = script_law
