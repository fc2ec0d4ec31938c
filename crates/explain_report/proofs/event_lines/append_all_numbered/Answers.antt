use Rattle.std.proofs.Common.{◌++◌, List, ℕ, take_all, ap, ◌∙◌, arith}
use Rattle.explain_report.specs.EventLines.{numbered_lines}
use Rattle.explain_report.proofs.event_lines.append_all_numbered.Goals as goal

pub returns : goal.returns
returns c =
    c.loop-event.invariant
    ∙ ap (λ (listed : List ℕ). c.args.out.now.items ++ numbered_lines c.args.indexed.now listed) (take_all c.loop-event.event-index c.args.events.now (omega arith))
