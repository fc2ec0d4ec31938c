use Rattle.std.proofs.Common.{rules, Some}
use Rattle.workspace_lock.specs.Places.{bench_of, mark_of}
use Rattle.workspace_lock.proofs.PlaceLemmas.{draws_from, has_bench}
use Rattle.workspace_lock.proofs.seat.take_bench.Goals as goal

pub fetch_add-ticket-requires : goal.fetch_add-ticket-requires
fetch_add-ticket-requires g c = (search rules, search rules, draws_from _ _ _ _ _ c.requires.2 c.requires.3)

pub exchange-requires : goal.exchange-requires
exchange-requires g c = let h = c.watch.ensures.2 in let k = mark_of c.fetch_add-ticket.new.seat.me.0 in (search rules, (Some (bench_of k.start.trace h.0), has_bench _ k _ _ _ h.2))
