use Rattle.std.proofs.Common.{arith}
use Rattle.race_groups.proofs.least_pairs.JoinLemmas.{AreTaken-none, AreTaken-more, AreTriesJoined-from}
use Rattle.race_groups.proofs.least_pairs.tries.join_tries.Goals as goal

pub loop-at-init : goal.loop-at-init
loop-at-init c = AreTaken-none c.args.most c.args.part.now c.args.tries.now.items c.requires.tries

pub loop-at-preserved : goal.loop-at-preserved
loop-at-preserved c =
    AreTaken-more c.args.most c.args.part.now c.args.tries.now.items c.loop-at.tries.items c.note_try.new.tries.items c.loop-at.at _ c.loop-at-test.true c.loop-at.invariant
    c.in_ok-note_try.ensures

pub returns : goal.returns
returns c =
    AreTriesJoined-from c.args.most c.args.part.now c.args.tries.now.items c.loop-at.tries.items c.loop-at.at (omega (arith, c.loop-at-test.false)) c.requires.part c.loop-at.invariant
