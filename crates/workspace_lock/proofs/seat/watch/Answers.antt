use Rattle.std.proofs.Common.{rules, sym, subst}
use mathlib.Core.Option.{none}
use Rattle.atomic_table.specs.Table.{step}
use Rattle.workspace_lock.specs.Places.{IsWaiting}
use Rattle.workspace_lock.proofs.PlaceLemmas.{watches_from, got_turn, not_yet}
use Rattle.workspace_lock.proofs.seat.watch.Goals as goal

pub load-requires : goal.load-requires
load-requires g c = (search rules, search rules, watches_from _ _ _ _ _ c.args.ticket (subst (IsWaiting c.args.ticket) (sym c.loop.invariant.2) c.requires.2))

pub returns-then-load-ticket : goal.returns-then-load-ticket
returns-then-load-ticket g c = (search rules, search rules, got_turn _ _ _ (step 1 1 0 0 none) _ _ c.requires.2 c.loop.invariant.2 c.load.ensures.2 (search rules))

pub loop-preserved : goal.loop-preserved
loop-preserved g c = (search rules, search rules, not_yet _ _ _ (step 1 1 0 0 none) _ _ c.requires.2 c.loop.invariant.2 c.load.ensures.2 (search rules))
