use Rattle.std.proofs.Common.{[], append-nil, sym, refl, inr}
use Rattle.deadlock_report.proofs.WaitLemmas.{free_wait}
use Rattle.deadlock_report.proofs.explained.append_wait_for.Goals as goal

pub returns-in-None : goal.returns-in-None
returns-in-None c =
    let free = c.held_since.ensures.none c.in-None.is in
    ([], sym (append-nil _), inr (free_wait c.args.analysis.now.events c.args.pair.0 c.args.pair.1 c.args.lock c.requires.acquires free, refl))
