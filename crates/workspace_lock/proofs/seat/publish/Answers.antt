use Rattle.std.proofs.Common.{rules, arith, ◌∷◌, [], None}
use Rattle.workspace_lock.specs.Places.{mark_of, ticket_in}
use Rattle.workspace_lock.proofs.PlaceLemmas.{publishes_from}
use Rattle.workspace_lock.proofs.seat.publish.Goals as goal

pub fetch_add-requires : goal.fetch_add-requires
fetch_add-requires g c = let m = c.args.place.now.me in let a = c.log_len.ensures.len in (
  search rules,
  search rules,
  rw (← c.requires.log)
      (publishes_from _ _ _ _ m (mark_of m.0) m.0.turns (ticket_in m.0.stage) ((0, None) ∷ []) c.args.bench.now.log c.requires.place.2 c.requires.bench.0 c.requires.bench.1 c.requires.bench.2 (omega arith)),
)
