use Rattle.std.proofs.Common.{ap, ◌∙◌}
use Rattle.serde_json.specs.Written.{has_float}
use Rattle.race_parts.specs.Pairs.{pair_shown}
use Rattle.triage_report.proofs.sarif.FloatLemmas.{merged-no_float}
use Rattle.triage_report.proofs.sarif.merged.append_object.Goals as goal

pub append_item-requires : goal.append_item-requires
append_item-requires c = ap has_float c.in_ok-object.ensures ∙ merged-no_float c.args.parts c.args.sources (pair_shown c.args.pair)
