use Rattle.std.proofs.Common.{subst, sym}
use Rattle.calls.specs.declared.pair.fault.PairFault.{PairFault}
use Rattle.calls.specs.pair.Uses.{IsUnused}
use Rattle.calls.proofs.pair.UsesLemmas.{unused}
use Rattle.calls.proofs.pair.using.table_of.Goals as goal

pub returns-in-Err-clause-fault : goal.returns-in-Err-clause-fault
returns-in-Err-clause-fault c =
    subst (λ (fault : PairFault). IsUnused c.args.indexed.now c.args.one c.args.other fault) (sym c.from.ensures)
    (unused c.args.indexed.now c.args.one c.args.other c.in-Err.fault c.in-Err.ensures.fault)
