use Rattle.closed_order.specs.Closed.{through}
use Rattle.closed_order.proofs.following.is_chain.Goals as goal

pub returns-in-Some : goal.returns-in-Some
returns-in-Some c so = through c.args.step.first c.in-Some.middle c.args.step.second c.in-Some.ensures (c.is_said.ensures so)
