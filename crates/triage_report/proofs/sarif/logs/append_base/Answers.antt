use Rattle.std.proofs.Common.{ap, ◌∙◌}
use Rattle.serde_json.specs.Written.{has_float}
use Rattle.triage_report.proofs.sarif.FloatLemmas.{base-no_float}
use Rattle.triage_report.proofs.sarif.logs.append_base.Goals as goal

pub append_value-requires : goal.append_value-requires
append_value-requires c = ap has_float c.in_ok-object.ensures ∙ base-no_float c.args.root.now
