use Rattle.explain_report.proofs.HeldLemmas.{held_locks-is}
use Rattle.explain_report.proofs.picture.accesses.found_locks.Goals as goal

pub returns : goal.returns
returns c = held_locks-is c.args.analysis.now c.args.event c.in_ok-locks.locks.items c.in_ok-locks.ensures.held
