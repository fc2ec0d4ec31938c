use Rattle.std.proofs.Common.{ap, ◌∙◌}
use Rattle.serde_json.specs.Written.{has_float}
use Rattle.deadlock_report.proofs.json.ObjectLemmas.{verdict-no_float}
use Rattle.deadlock_report.proofs.json.lines.append_verdict.Goals as goal

pub append_line-requires : goal.append_line-requires
append_line-requires c = ap has_float c.in_ok-object.ensures ∙ verdict-no_float c.args.analysis.now c.args.verdict.now
