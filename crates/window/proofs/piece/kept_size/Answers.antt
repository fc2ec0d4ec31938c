use Rattle.std.proofs.Common.{◌≡◌, ◌∙◌, ℕ, IfSome, Option, length, subst}
use Rattle.trace_rules.specs.Rules.{IsDisciplined}
use Rattle.window.proofs.FrontLemmas.{size_is}
use Rattle.window.proofs.piece.kept_size.Goals as goal

pub returns-in-Some-clause-kept : goal.returns-in-Some-clause-kept
returns-in-Some-clause-kept c =
    let r = c.in-Ok.raw in
    let ruled = subst (λ (o : Option ℕ). IfSome o (λ n. IsDisciplined r.events × (n ≡ length r.events))) c.in-Some.is c.in_ok-size-in-Ok.ensures.ruled in
    ((r, c.in-Ok.ensures.read, ruled.0), ruled.1 ∙ size_is c.args.text.now r c.in-Ok.ensures.read)
