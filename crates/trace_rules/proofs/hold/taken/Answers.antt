use Rattle.trace_rules.proofs.HoldLemmas.{IsHoldOf-acquire}
use Rattle.trace_rules.proofs.hold.taken.Goals as goal

pub returns : goal.returns
returns c = λ es l e mine op is. rw (← mine) (IsHoldOf-acquire es l e c.args.hold is op (rw mine c.requires.allowed))
