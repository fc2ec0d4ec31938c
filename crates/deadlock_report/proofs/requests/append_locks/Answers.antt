use Rattle.std.proofs.Common.{◌++◌, ℕ, List, take_all, ap, ◌∙◌, arith}
use Rattle.deadlock_report.specs.Texts.{other_lines}
use Rattle.deadlock_report.proofs.requests.append_locks.Goals as goal

pub returns : goal.returns
returns c =
    c.loop-lock.invariant
    ∙ ap (λ (listed : List ℕ). c.args.out.now.items ++ other_lines c.args.indexed.now c.args.but listed)
    (take_all c.loop-lock.lock-index c.args.locks.now (omega arith))
