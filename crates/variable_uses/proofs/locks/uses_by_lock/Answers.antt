use Rattle.variable_uses.proofs.locks.uses_by_lock.Goals as goal

pub add_all-requires-clause-uses : goal.add_all-requires-clause-uses
add_all-requires-clause-uses c = c.in_ok-lists.ensures.uses c.args.numbers.now
