use Rattle.std.proofs.Common.{sym}
use Rattle.schedule.proofs.ThreadCounts.{count_in-place, count_in-gap}
use Rattle.schedule.proofs.counts.count_at.Goals as goal

pub returns-in-Ok : goal.returns-in-Ok
returns-in-Ok c = sym (count_in-place c.args.counts.now c.requires c.args.thread c.in-Ok.at _ c.in-Ok.ensures.place)

pub returns-in-Err : goal.returns-in-Err
returns-in-Err c = sym (count_in-gap c.args.counts.now c.args.thread c.in-Err.field-0 c.in-Err.ensures.gap)
