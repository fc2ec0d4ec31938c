use Rattle.window.proofs.GrowthLemmas.{goes_on, reads_more}
use Rattle.window.proofs.prologue.add_reads.Goals as goal

pub loop-at-preserved : goal.loop-at-preserved
loop-at-preserved c =
    goes_on c.args.events.now.items _ _ _ _ _ c.in_ok-add_access.ensures c.loop-at.invariant (reads_more c.args.variable c.args.own c.args.readers.now c.loop-at.at _ c.loop-at-test.true)
