use Rattle.std.proofs.Common.{rules, Some, sym, subst}
use mathlib.Core.Option.{none}
use Rattle.atomic_table.specs.Table.{step}
use Rattle.workspace_lock.specs.Places.{bench_of, mark_of}
use Rattle.workspace_lock.specs.Rows.{IsEnd}
use Rattle.workspace_lock.proofs.PlaceLemmas.{last_draw, ends_from, last_slot, slot_first, end_is}
use Rattle.workspace_lock.proofs.seats.finish.Goals as goal

pub fetch_add-requires : goal.fetch_add-requires
fetch_add-requires c = (search rules, search rules, last_draw _ _ _ _ _ c.requires.place.2 c.requires.all.0)

pub load-requires : goal.load-requires
load-requires c = (search rules, search rules, ends_from _ _ _ _ c.args.place.now.me _ _ c.requires.place.2 c.fetch_add.ensures.2 c.requires.all.1 c.requires.all.0)

pub exchange-requires : goal.exchange-requires
exchange-requires c = let m = c.args.place.now.me in let h = last_slot m c.fetch_add.new.seat.me c.load.new.seat.me (step 1 1 0 0 none) c.load.result _ c.fetch_add.ensures.2 c.load.ensures.2 in
    (search rules, (Some (bench_of (mark_of m.0).start.trace h.0), slot_first c.load.new.seat.me _ h.2))

pub returns : goal.returns
returns c = let m = c.args.place.now.me in subst (IsEnd (mark_of m.0).start.trace m.0.marks) (sym c.into_bench.ensures)
    (end_is m c.fetch_add.new.seat.me c.load.new.seat.me (step 1 1 0 0 none) c.load.result c.fetch_add.result c.exchange.result c.unwrap.result c.fetch_add.ensures.2 c.load.ensures.2 c.exchange.ensures.2 c.unwrap.ensures)
