use Rattle.kept_session.proofs.ReplayLemmas.{replay_law}
use Rattle.kept_session.proofs.laws.replay_leaves_log.Goals as goal

pub returns : goal.returns
returns c = replay_law
