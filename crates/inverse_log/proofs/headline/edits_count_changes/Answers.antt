use Rattle.inverse_log.proofs.EditLemmas.{edits_law}
use Rattle.inverse_log.proofs.headline.edits_count_changes.Goals as goal

pub returns : goal.returns
returns c = edits_law
