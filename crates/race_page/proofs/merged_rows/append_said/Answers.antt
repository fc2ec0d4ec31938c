use Rattle.std.proofs.Common.{◌≡◌, ◌++◌, OnOk, subst}
use Rattle.serde_json.specs.Data.{Data}
use Rattle.race_page.specs.MergedRows.{shown_row}
use Rattle.race_page.proofs.merged_rows.append_said.Goals as goal

pub returns : goal.returns
returns c =
    subst (λ (d : Data). OnOk c.append_shown.result (c.append_shown.new.out.items ≡ c.args.out.now.items ++ shown_row c.args.parts c.args.pair d))
    c.in_ok-data_of.ensures c.append_shown.ensures
