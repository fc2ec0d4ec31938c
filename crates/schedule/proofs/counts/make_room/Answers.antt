use Rattle.std.proofs.Common.{ap, ◌∙◌, rules}
use Rattle.schedule.specs.Counts.{count_in, IsGapFor}
use Rattle.schedule.proofs.ThreadCounts.{count_in-room}
use Rattle.schedule.proofs.counts.make_room.Goals as goal

pub returns-in-Ok-insert-clause-same : goal.returns-in-Ok-insert-clause-same
returns-in-Ok-insert-clause-same c = λ t.
    let cs = c.args.counts.now.items in
    let gap : IsGapFor cs c.args.thread c.in-Err.at = search rules in
    ap (λ l. count_in l t) c.in-Ok-insert.ensures.items ∙ count_in-room cs c.args.thread c.in-Err.at gap t
