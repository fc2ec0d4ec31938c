use Rattle.std.proofs.Common.{◌++◌, List, ℕ, take_all, ap, ◌∙◌, arith}
use Rattle.explain_report.specs.Witnesses.{add_lines}
use Rattle.explain_report.proofs.witness.append_adds.Goals as goal

pub returns : goal.returns
returns c =
    c.loop-event.invariant
    ∙ ap (λ (listed : List ℕ). c.args.out.now.items ++ add_lines listed) (take_all c.loop-event.event-index c.args.events.now (omega arith))
