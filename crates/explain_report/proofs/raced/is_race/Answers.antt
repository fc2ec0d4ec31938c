use Rattle.std.proofs.Common.{subst, arith}
use Rattle.rapid_text.specs.Recording.{Recording}
use Rattle.trace_rules.specs.Rules.{IsDisciplined}
use Rattle.explain_report.proofs.RacedLemmas.{candidate_test}
use Rattle.explain_report.proofs.raced.is_race.Goals as goal

pub returns : goal.returns
returns c =
    let disciplined = subst (λ (r : Recording). IsDisciplined r.events) c.indexed.ensures c.len.ensures.disciplined in
    candidate_test c.args.analysis.now.events disciplined c.args.first c.args.second (omega (arith, c.if-first-second.false)) c.is_candidate.result c.is_candidate.ensures.candidate
