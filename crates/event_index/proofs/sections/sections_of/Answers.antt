use Rattle.std.proofs.Common.{arith}
use Rattle.event_index.proofs.SectionLemmas.{all_known}
use Rattle.event_index.proofs.sections.sections_of.Goals as goal

pub returns : goal.returns
returns c = all_known c.args.raw.now c.loop-event.event c.loop-event.known (omega arith) c.loop-event.invariant
