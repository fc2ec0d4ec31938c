use Rattle.std.proofs.Common.{sym}
use Rattle.race_groups.proofs.FoundLemmas.{found_name, IsGrown-insert}
use Rattle.race_groups.proofs.holding.number_of.Goals as goal

pub returns-in-Some-clause-at : goal.returns-in-Some-clause-at
returns-in-Some-clause-at c = found_name c.args.lists.now.keys c.args.list.now c.in-Some.at (sym c.in-Some.ensures.index)

pub returns-clause-grown : goal.returns-clause-grown
returns-clause-grown c = IsGrown-insert c.args.lists.now.keys c.insert_full.new.self.keys c.in_ok-owned.owned _ c.in_ok-at.ensures.keys
