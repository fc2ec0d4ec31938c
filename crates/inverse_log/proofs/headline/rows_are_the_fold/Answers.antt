use Rattle.inverse_log.proofs.HeadLemmas.{fold_law}
use Rattle.inverse_log.proofs.headline.rows_are_the_fold.Goals as goal

pub returns : goal.returns
returns c = fold_law
