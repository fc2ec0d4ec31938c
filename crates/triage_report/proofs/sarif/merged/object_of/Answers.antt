use Rattle.std.proofs.Common.{◌≡◌, IfOk, subst}
use Rattle.serde_json.specs.Data.{Data}
use Rattle.serde_json.specs.View.{view}
use Rattle.race_parts.specs.Pairs.{pair_shown}
use Rattle.triage_report.specs.sarif.Merged.{row_object}
use Rattle.triage_report.proofs.sarif.merged.object_of.Goals as goal

pub returns : goal.returns
returns c =
    subst (λ (d : Data). IfOk c.object_in.result (λ made. view made ≡ row_object c.args.parts c.args.sources (pair_shown c.args.pair) d)) c.in_ok-row.ensures c.object_in.ensures
