use Rattle.std.proofs.Common.{◌+◌, ℕ, List, subst, sym, ◌∙◌}
use Rattle.std.proofs.lemmas.Bool.{false≢true}
use Rattle.deadlock_triage.specs.Nesting.{AreNestedBelow}
use Rattle.deadlock_triage.proofs.NestLemmas.{nested-no, nested-yes}
use Rattle.deadlock_triage.proofs.requests.note.Goals as goal

pub returns-then-not-is_nested : goal.returns-then-not-is_nested
returns-then-not-is_nested c =
    nested-no c.args.analysis.now c.args.event c.args.nested.now.items c.requires.nested (λ is. false≢true (sym c.if-not-is_nested.true ∙ c.is_nested.ensures.1 is))

pub returns : goal.returns
returns c =
    subst (AreNestedBelow c.args.analysis.now (c.args.event + 1)) (sym c.in_ok-push.ensures.items)
    (nested-yes c.args.analysis.now c.args.event c.args.nested.now.items c.requires.nested (c.is_nested.ensures.0 c.if-not-is_nested.false))
