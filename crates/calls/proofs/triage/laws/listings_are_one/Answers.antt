use Rattle.calls.proofs.triage.OneLemmas.{listings_law}
use Rattle.calls.proofs.triage.laws.listings_are_one.Goals as goal

pub returns : goal.returns
returns c = listings_law
