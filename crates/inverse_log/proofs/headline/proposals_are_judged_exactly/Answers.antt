use Rattle.inverse_log.proofs.ProposalLemmas.{judged_law}
use Rattle.inverse_log.proofs.headline.proposals_are_judged_exactly.Goals as goal

pub returns : goal.returns
returns c = judged_law
