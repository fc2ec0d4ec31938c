use Rattle.std.proofs.Common.{ap, ◌∙◌}
use Rattle.serde_json.specs.Written.{has_float}
use Rattle.triage_report.proofs.sarif.FloatLemmas.{left-no_float}
use Rattle.triage_report.proofs.sarif.logs.append_left.Goals as goal

pub append_value-requires : goal.append_value-requires
append_value-requires c = ap has_float c.in_ok-object.ensures ∙ left-no_float c.args.known c.args.hidden
