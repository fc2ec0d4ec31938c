use Rattle.std.proofs.lemmas.Bool.{false≢true}
use Rattle.witness_search.proofs.trace_order.holding.is_held_by.Goals as goal

pub returns-then-lane-thread : goal.returns-then-lane-thread
returns-then-lane-thread c = (λ so. absurd (false≢true so), λ h. absurd (h.0 c.if-lane-thread.true))

pub returns : goal.returns
returns c = (λ so. (c.if-lane-thread.false, c.is_holding.ensures.0 so), λ h. c.is_holding.ensures.1 h.1)
