use Rattle.explain_report.proofs.findings.FindingLemmas.{forced_before}
use Rattle.explain_report.proofs.findings.searching.forced.Goals as goal

pub unreachable-requires : goal.unreachable-requires
unreachable-requires c =
    c.in_ok-chains.ensures.none c.in-None.is (forced_before c.args.analysis.now.events c.args.first c.args.second c.requires.kind.1)
