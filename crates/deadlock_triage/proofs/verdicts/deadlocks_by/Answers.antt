use Rattle.std.proofs.Common.{sym}
use Rattle.deadlock_triage.proofs.EndLemmas.{nested-length}
use Rattle.deadlock_triage.proofs.verdicts.deadlocks_by.Goals as goal

pub verdicts_of-requires-clause-judge : goal.verdicts_of-requires-clause-judge
verdicts_of-requires-clause-judge c = record { places = c.requires.places; nested = c.requires.nested }

pub count_of-requires : goal.count_of-requires
count_of-requires c = nested-length c.args.analysis.now c.args.nested.now c.requires.nested

pub returns-clause-nested : goal.returns-clause-nested
returns-clause-nested c = (c.args.nested.now, c.requires.nested, sym c.count_of.ensures)
