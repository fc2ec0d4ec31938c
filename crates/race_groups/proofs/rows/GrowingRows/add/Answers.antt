use Rattle.race_groups.proofs.WaitingLemmas.{AreRows_with}
use Rattle.race_groups.proofs.rows.GrowingRows.add.Goals as goal

pub returns-clause-rows : goal.returns-clause-rows
returns-clause-rows c = AreRows_with c.add_or_wait.new.waiting.cells.items c.add_or_wait.new.rows c.add_or_wait.ensures.waiting
