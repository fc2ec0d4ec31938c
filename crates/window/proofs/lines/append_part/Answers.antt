use Rattle.std.proofs.Common.{sym}
use Rattle.window.specs.Cuts.{with_name}
use Rattle.window.proofs.GrowthLemmas.{goes_on}
use Rattle.window.proofs.LineLemmas.{part_lines_more}
use Rattle.window.proofs.lines.append_part.Goals as goal

pub loop-event-preserved : goal.loop-event-preserved
loop-event-preserved c =
    goes_on c.args.text.now.items _ _ _ _ _ c.in_ok-append_line.ensures c.loop-event.invariant
    (sym (part_lines_more (with_name c.args.trace.now c.args.own.now) c.args.trace.now c.args.from c.loop-event.event _ _ c.loop-event.auto.event c.event.ensures.found c.location.ensures))
