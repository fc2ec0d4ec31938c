use Rattle.std.proofs.Common.{◌++◌, ◌≤◌, length, subst, arith}
use Rattle.window.specs.Streams.{IsPieceFault, said_in}
use Rattle.window.proofs.FrontLemmas.{no_events}
use Rattle.window.proofs.front.Front.told.Goals as goal

pub returns-in-NoSuchEvent : goal.returns-in-NoSuchEvent
returns-in-NoSuchEvent c =
    let head = c.args.head.now.text.items in
    let fault = subst (IsPieceFault (head ++ c.args.more.now) c.args.head.now.size) c.in-NoSuchEvent.is c.requires.fault in
    let few : length fault.0.events ≤ length (said_in head) = omega (arith, fault.2, c.requires.size) in
    no_events head c.args.more.now fault.0 c.requires.stands.ends fault.1 few

pub returns-in-NoName : goal.returns-in-NoName
returns-in-NoName c =
    let head = c.args.head.now.text.items in
    let fault = subst (IsPieceFault (head ++ c.args.more.now) c.args.head.now.size) c.in-NoName.is c.requires.fault in
    (head, fault.0, c.requires.is, fault.1, fault.2)
