use Rattle.std.proofs.Common.{subst}
use Rattle.indexmap.specs.IndexMap.{IsUnique}
use Rattle.race_groups.specs.Rows.{same_places}
use Rattle.race_groups.proofs.WaitingLemmas.{unique_with}
use Rattle.race_groups.proofs.rows.GrowingRows.len.Goals as goal

pub returns-clause-unique : goal.returns-clause-unique
returns-clause-unique c = subst (λ m. IsUnique same_places m) c.self.view_is (unique_with c.self.inside.waiting.cells.items c.self.inside.rows c.len.ensures.unique)
