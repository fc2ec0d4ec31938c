use Rattle.std.proofs.Common.{◌≡◌, length, arith}
use Rattle.event_index.proofs.RowLemmas.{IsFilled-all}
use Rattle.event_index.proofs.grouping.grouped_of.Goals as goal

pub returns : goal.returns
returns c =
    let all : c.loop-event.event ≡ length c.args.raw.now.events = omega arith in
    IsFilled-all _ _ _ _ c.requires.starts (rw (← all) c.loop-event.invariant)
