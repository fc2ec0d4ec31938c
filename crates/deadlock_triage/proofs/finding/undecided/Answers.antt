use Rattle.std.proofs.Common.{subst}
use Rattle.rapid_text.specs.Recording.{Recording}
use Rattle.trace_rules.specs.Rules.{IsDisciplined}
use Rattle.deadlock_triage.proofs.OpenLemmas.{unrefuted_open}
use Rattle.deadlock_triage.proofs.finding.undecided.Goals as goal

pub returns : goal.returns
returns c =
    let rules : IsDisciplined c.args.analysis.now.events = subst (λ (p : Recording). IsDisciplined p.events) c.indexed-indexed.ensures c.len-len.ensures.disciplined in
    unrefuted_open c.args.analysis.now.events rules c.args._first c.args._second c.requires
