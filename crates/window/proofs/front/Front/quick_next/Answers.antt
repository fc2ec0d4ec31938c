use Rattle.std.proofs.Common.{IfSome, List, ℕ, Option, subst}
use Rattle.window.specs.Streams.{Stands}
use Rattle.window.specs.declared.front.Head.{Head}
use Rattle.window.proofs.front.Front.quick_next.Goals as goal

pub next-requires-clause-stands : goal.next-requires-clause-stands
next-requires-clause-stands c =
    let front = c.args.self.now.read in
    (subst (λ (o : Option Head). IfSome o (λ head. (more : List ℕ) → Stands front head.text.items more)) c.in-Some.is c.in_ok-head.ensures.stands) c.args.more.now
