use Rattle.race_parts.proofs.UnionLemmas.{union_law}
use Rattle.race_parts.proofs.laws.merging_is_a_union.Goals as goal

pub returns : goal.returns
returns c = union_law
