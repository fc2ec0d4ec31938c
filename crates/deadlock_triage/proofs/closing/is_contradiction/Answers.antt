use Rattle.std.proofs.Common.{[], ◌∷◌, Option, IfSome, Vec, subst}
use Rattle.std.specs.declared.alloc.Global.{Global}
use Rattle.closed_order.specs.Steps.{IsContradiction}
use Rattle.closed_order.specs.declared.steps.Step.{Step}
use Rattle.rapid_text.specs.Recording.{Recording}
use Rattle.trace_rules.specs.Rules.{IsDisciplined}
use Rattle.deadlock_triage.proofs.closing.is_contradiction.Goals as goal

pub returns-in-Some : goal.returns-in-Some
returns-in-Some c so =
    let rules : IsDisciplined c.args.analysis.now.events = subst (λ (p : Recording). IsDisciplined p.events) c.indexed-indexed.ensures c.len-len.ensures.disciplined in
    λ P reordering. c.contradicted_is_no_deadlock.ensures c.args.analysis.now.events P (c.args._first ∷ c.args._second ∷ []) rules reordering
    (subst (λ (o : Option (Vec Step Global)). IfSome o (λ steps. IsContradiction c.args.analysis.now.events (c.args._first ∷ c.args._second ∷ []) steps.items)) c.in-Some.is c.requires).contradicted
