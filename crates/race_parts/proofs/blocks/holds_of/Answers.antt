use Rattle.std.proofs.Common.{rules}
use Rattle.serde_json.specs.View.{view}
use Rattle.race_parts.proofs.LoopLemmas.{holds-are}
use Rattle.race_parts.proofs.blocks.holds_of.Goals as goal

pub returns-in-Some-as_array : goal.returns-in-Some-as_array
returns-in-Some-as_array c = holds-are (view c.args.access.now) (view c.in-Some.found.now) _ (search rules) (search rules)
