use Rattle.std.proofs.Common.{sym}
use Rattle.script_language.proofs.QuickBatchLemmas.{two_parts}
use Rattle.script_language.proofs.quick_batch.name_and_number.Goals as goal

pub returns-in-Ok-Ok : goal.returns-in-Ok-Ok
returns-in-Ok-Ok c =
    let read = c.in-Ok-Ok in
    two_parts c.has_more.new.words c.in_ok-more.more c.args.words.now c.next.new.self c.next-2.new.self
    c.in_ok-first.first.now c.in_ok-second.second.now read.name read.number
    c.in_ok-first.ensures.some c.in_ok-second.ensures.some c.in_ok-more.ensures (sym read.ensures) (sym read.ensures')
