use Rattle.explain_report.proofs.findings.FindingLemmas.{never_shown}
use Rattle.explain_report.proofs.findings.searching.find.Goals as goal

pub returns-clause-apart : goal.returns-clause-apart
returns-clause-apart c =
    never_shown c.args.analysis.now c.args.first c.args.second c.in_ok-finding.finding c.apart_is_never_shown.ensures c.contradicted_is_never_shown.ensures (simp c.indexed.ensures at c.len-len.ensures.disciplined) c.in_ok-finding.ensures
