use Rattle.schedule.proofs.TableLemmas.{AreTables-nil}
use Rattle.schedule.proofs.tables.tables_with_room.Goals as goal

pub returns : goal.returns
returns c = AreTables-nil c.args.indexed.now.events _ c.new.ensures.items c.new-2.ensures c.in-Ok.ensures.items
