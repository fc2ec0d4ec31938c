use Rattle.std.proofs.Common.{rules}
use mathlib.Core.Option.{none}
use Rattle.atomic_table.specs.Table.{step}
use Rattle.workspace_lock.proofs.PlaceLemmas.{fronts_from, looked}
use Rattle.workspace_lock.proofs.seat.look.Goals as goal

pub load-requires : goal.load-requires
load-requires c = (search rules, search rules, fronts_from _ _ _ _ c.args.place.now.me c.requires.2)

pub returns : goal.returns
returns c = (search rules, search rules, looked c.args.place.now.me c.load.new.seat.me (step 2 0 0 0 none) _ c.requires.2 c.load.ensures.2)
