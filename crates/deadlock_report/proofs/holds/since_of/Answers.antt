use Rattle.deadlock_report.proofs.HoldLemmas.{since_at-is}
use Rattle.deadlock_report.proofs.holds.since_of.Goals as goal

pub returns : goal.returns
returns c =
    since_at-is c.args.analysis.now c.args.request c.args.lock c.held_since.result c.held_since.ensures.since
    c.held_since.ensures.none
