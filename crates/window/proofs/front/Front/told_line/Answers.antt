use Rattle.std.proofs.Common.{arith, rules}
use Rattle.window.proofs.FrontLemmas.{front_of, line_told}
use Rattle.window.proofs.front.Front.told_line.Goals as goal

pub returns-in-Some : goal.returns-in-Some
returns-in-Some c =
    let s = c.args.self.now in
    let front = front_of _ _ _ _ _ s c.self.view_is c.self.invariant in
    line_told s.read s.past _ _ _ front c.args.more.now c.args.refusal _ c.requires (omega (arith, c.if-refusal-eq0.false)) (search rules) (search rules) (omega (arith, c.in-Some.ensures))
