use Rattle.std.proofs.Common.{ℕ, ◌<◌, refl, arith}
use Rattle.deadlock_triage.proofs.ListLemmas.{rising-steps}
use Rattle.deadlock_triage.proofs.judging.is_rising.Goals as goal

pub returns : goal.returns
returns c = (λ _. rising-steps c.args.events.now (λ k lt. c.loop-at.invariant k (omega (arith, lt, c.loop-at-test.false))), λ _. refl)
