use Rattle.std.proofs.Common.{refl}
use Rattle.race_triage.proofs.workers.add.Goals as goal

pub returns : goal.returns
returns c = (
  c.in_ok-verdict.verdict.row,
  c.in_ok-verdict.ensures.row,
  record { verdict = c.in_ok-verdict.verdict; is = (c.in_ok-verdict.ensures.verdict, refl); added = c.in_ok-push.ensures.items },
)
