use Rattle.std.proofs.Common.{◌++◌, ℕ, List, take_all, ap, ◌∙◌, arith}
use Rattle.triage_report.specs.lines.Lines.{lock_lines}
use Rattle.triage_report.proofs.lines.blocks.append_locks.Goals as goal

pub returns : goal.returns
returns c =
    c.loop-lock.invariant
    ∙ ap (λ (listed : List ℕ). c.args.out.now.items ++ lock_lines c.args.indexed.now c.args.place.now listed) (take_all c.loop-lock.lock-index c.args.locks.now (omega arith))
