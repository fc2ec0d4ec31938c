use Rattle.std.proofs.Common.{sym}
use Rattle.script_language.proofs.QuickBatchLemmas.{three_parts}
use Rattle.script_language.proofs.quick_batch.branch.Goals as goal

pub returns-in-Ok-Ok-Ok : goal.returns-in-Ok-Ok-Ok
returns-in-Ok-Ok-Ok c =
    let read = c.in-Ok-Ok-Ok in
    three_parts c.has_more.new.words c.in_ok-more.more c.args.words.now c.next.new.self c.next-2.new.self c.next-3.new.self
    c.in_ok-first.first.now c.in_ok-second.second.now c.in_ok-third.third.now read.name read.to read.length
    c.in_ok-first.ensures.some c.in_ok-second.ensures.some c.in_ok-third.ensures.some c.in_ok-more.ensures
    (sym read.ensures) (sym read.ensures') (sym read.ensures'')
