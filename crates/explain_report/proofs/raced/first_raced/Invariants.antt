-- No step of the chains so far races.
use Rattle.std.proofs.Common.{◌≡◌, take, None}
use Rattle.explain_report.specs.Chains.{raced_step}
use Rattle.explain_report.proofs.raced.first_raced.Given as goal

abbrev pub invariant-loop-chain : goal.invariant-loop-chain
invariant-loop-chain l = raced_step l.analysis.events (take l.chain-index l.chains) ≡ None
