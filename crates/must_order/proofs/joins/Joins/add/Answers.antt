use Rattle.std.proofs.Common.{sym, subst, List}
use Rattle.must_order.specs.Joins.{AreJoins}
use Rattle.must_order.specs.declared.joins.Join.{Join}
use Rattle.must_order.proofs.JoinLemmas.{AreJoins-add}
use Rattle.must_order.proofs.joins.Joins.add.Goals as goal

pub returns-clause-known : goal.returns-clause-known
returns-clause-known c =
    subst (λ (js : List Join). AreJoins c.args.indexed.now.events c.args.event js c.args.self.now.starts.items) (sym c.in_ok-push.ensures.items)
    (AreJoins-add c.args.indexed.now.events c.args.event c.args.self.now.list.items c.args.self.now.starts.items c.args.acquire c.args.release c.requires.known c.requires.ends c.requires.earlier c.requires.led)
