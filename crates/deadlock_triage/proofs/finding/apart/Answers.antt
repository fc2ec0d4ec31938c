use Rattle.std.proofs.Common.{[], ◌∷◌, subst}
use Rattle.rapid_text.specs.Recording.{Recording}
use Rattle.trace_rules.specs.Rules.{IsDisciplined}
use Rattle.deadlock_triage.proofs.finding.apart.Goals as goal

pub returns : goal.returns
returns c =
    let rules : IsDisciplined c.args.analysis.now.events = subst (λ (p : Recording). IsDisciplined p.events) c.indexed-indexed.ensures c.len-len.ensures.disciplined in
    λ P reordering. c.refuted_is_never_shown.ensures c.args.analysis.now.events P (c.args._first ∷ c.args._second ∷ []) rules reordering c.requires
