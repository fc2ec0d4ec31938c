use Rattle.std.proofs.Common.{arith}
use Rattle.std.proofs.lemmas.Bool.Decides.{nat_tests}
use Rattle.trace_rules.proofs.LifeLemmas.{fork_late}
use Rattle.trace_rules.proofs.life.breach_of_fork.Goals as goal
use Rattle.trace_rules.proofs.life.breach_of_fork.Goals.{then-life-2-via-then-life-2, then-life-2-via-else-life-2+then-life-3}

pub returns-then-life-2 : goal.returns-then-life-2
returns-then-life-2 c = λ es is.
    elim c.then-life-2.branch [
      | then-life-2-via-then-life-2 w ↦ grind (arith, nat_tests, fork_late es c.args.thread c.args.life is)
      | then-life-2-via-else-life-2+then-life-3 w ↦ grind (arith, nat_tests, fork_late es c.args.thread c.args.life is)
    ]
