use Rattle.calls.proofs.triage.LeavingListedLemmas.{right_all}
use Rattle.calls.proofs.triage.leaving.listed.listed_of.Goals as goal

pub returns : goal.returns
returns c = right_all _ _ _ c.in_ok-known.ensures.known c.args.cells.now c.in_ok-places.ensures
