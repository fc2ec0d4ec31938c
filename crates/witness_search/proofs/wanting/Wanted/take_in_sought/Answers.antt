use Rattle.witness_search.proofs.FoundLemmas.{Adds-then, Adds-same}
use Rattle.witness_search.proofs.wanting.Wanted.take_in_sought.Goals as goal

pub returns-clause-adds : goal.returns-clause-adds
returns-clause-adds c =
    Adds-then _ _ _ _ _ (Adds-same c.base.ensures.base c.in_ok-take_in.ensures.adds) (Adds-same c.partner_of.ensures.partner c.in_ok-take_in-2.ensures.adds)
