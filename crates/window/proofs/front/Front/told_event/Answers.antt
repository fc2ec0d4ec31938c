use Rattle.std.proofs.Common.{arith, rules}
use Rattle.window.proofs.FrontLemmas.{breach_told, front_of}
use Rattle.window.proofs.front.Front.told_event.Goals as goal

pub returns : goal.returns
returns c =
    let s = c.args.self.now in
    let front = front_of _ _ _ _ _ s c.self.view_is c.self.invariant in
    breach_told s.read s.past _ _ _ front c.args.more.now _ _ c.requires.fault.0 c.args.refusal _ c.requires.stands c.requires.kept c.requires.size c.requires.fault.1 c.requires.fault.2 (search rules) (omega (arith, c.saturating_sub-later.ensures, c.from.ensures))
