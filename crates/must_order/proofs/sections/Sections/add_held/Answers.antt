use Rattle.std.proofs.Common.{◌+◌, sym, ◌∙◌, subst}
use Rattle.std.proofs.lemmas.Bool.{false≢true}
use Rattle.must_order.specs.Held.{AreLocksHeld}
use Rattle.must_order.proofs.HeldLemmas.{AreLocksHeld-push, AreLocksHeld-skip}
use Rattle.must_order.proofs.sections.Sections.add_held.Goals as goal

pub returns-in_ok-push : goal.returns-in_ok-push
returns-in_ok-push c =
    subst (AreLocksHeld c.args.indexed.now.events c.args.event (c.args.lock + 1)) (sym c.in_ok-push.ensures.items)
    (AreLocksHeld-push c.args.indexed.now.events c.args.event c.args.lock c.args.locks.now.items c.requires.held (c.is_held.ensures.0 c.if-is_held.true))

pub returns-else-is_held : goal.returns-else-is_held
returns-else-is_held c =
    AreLocksHeld-skip c.args.indexed.now.events c.args.event c.args.lock c.args.locks.now.items c.requires.held
    (λ held. false≢true (sym c.if-is_held.false ∙ c.is_held.ensures.1 held))
