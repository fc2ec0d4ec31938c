use Rattle.std.proofs.Common.{rules}
use Rattle.serde_json.specs.View.{view}
use Rattle.race_page.proofs.MergedLemmas.{locks_are}
use Rattle.race_page.proofs.merged_table.locks_of.Goals as goal

pub returns-in-Some-as_array : goal.returns-in-Some-as_array
returns-in-Some-as_array c = locks_are (view c.args.access.now) (view c.in-Some.found.now) _ (search rules) (search rules)
