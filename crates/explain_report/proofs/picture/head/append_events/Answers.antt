use Rattle.std.proofs.Common.{◌++◌, List, ℕ, take_all, ap, ◌∙◌, arith}
use Rattle.explain_report.specs.picture.Pictures.{spaced_events}
use Rattle.explain_report.proofs.picture.head.append_events.Goals as goal

pub returns : goal.returns
returns c =
    c.loop-event.invariant
    ∙ ap (λ (listed : List ℕ). c.args.out.now.items ++ spaced_events listed) (take_all c.loop-event.event-index c.args.events.now (omega arith))
