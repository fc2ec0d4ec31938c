use Rattle.std.proofs.lemmas.Option.{slice_get-get_or}
use Rattle.window.specs.Cuts.{with_name}
use Rattle.window.proofs.GrowthLemmas.{goes_on}
use Rattle.window.proofs.LineLemmas.{lines_more}
use Rattle.std.proofs.Common.{sym}
use Rattle.window.proofs.lines.append_prologue.Goals as goal

pub loop-at-preserved : goal.loop-at-preserved
loop-at-preserved c =
    goes_on c.args.text.now.items _ _ _ _ _ c.in_ok-append_line.ensures c.loop-at.invariant
    (sym (lines_more (with_name c.args.trace.now c.args.own.now) c.args.events.now c.loop-at.at _ (slice_get-get_or c.args.events.now c.loop-at.at _ c.loop-at-test.true)))
