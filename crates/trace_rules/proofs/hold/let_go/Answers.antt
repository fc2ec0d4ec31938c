use Rattle.std.proofs.Common.{◌≡◌, Some, ap, sym, ◌∙◌, arith}
use Rattle.trace_rules.proofs.HoldLemmas.{IsHoldOf-release, IsHoldOf-last}
use Rattle.trace_rules.proofs.hold.let_go.Goals as goal

pub returns-then-depth-eq0 : goal.returns-then-depth-eq0
returns-then-depth-eq0 c = λ es l e mine op is.
    let last : c.args.hold.depth ≡ 1 = omega (arith, c.requires.deep, c.if-depth-eq0.true) in
    IsHoldOf-last es l e c.args.hold is op (c.requires.owned ∙ ap Some (sym mine)) c.free.result last (c.free.ensures l)

pub returns-else-depth-eq0 : goal.returns-else-depth-eq0
returns-else-depth-eq0 c = λ es l e mine op is.
    rw (← mine) (IsHoldOf-release es l e c.args.hold is op (c.requires.owned ∙ ap Some (sym mine)) (omega (arith, c.requires.deep, c.if-depth-eq0.false)))
