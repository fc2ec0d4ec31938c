use Rattle.std.proofs.Common.{[], ◌∷◌, Option, IfSome, Vec, subst}
use Rattle.std.specs.declared.alloc.Global.{Global}
use Rattle.closed_order.specs.Steps.{IsContradiction}
use Rattle.closed_order.specs.declared.steps.Step.{Step}
use Rattle.rapid_text.specs.Recording.{Recording}
use Rattle.trace_rules.specs.Rules.{IsDisciplined}
use Rattle.race_triage.proofs.settling.Settling.is_contradicted.Goals as goal

pub returns-in-Some : goal.returns-in-Some
returns-in-Some c so P correct =
    let T = c.args.self.now.analysis.now.events in
    let rules : IsDisciplined T = subst (λ (r : Recording). IsDisciplined r.events) c.indexed-indexed.ensures c.len-len.ensures.disciplined in
    c.contradicted_is_never_shown.ensures T P c.args._first c.args._second rules correct
    (subst (λ (o : Option (Vec Step Global)). IfSome o (λ steps. IsContradiction T (c.args._first ∷ c.args._second ∷ []) steps.items)) c.in-Some.is c.requires).contradicted
