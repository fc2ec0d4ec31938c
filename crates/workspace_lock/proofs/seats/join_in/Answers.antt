use Rattle.std.proofs.Common.{rules}
use Rattle.workspace_lock.specs.Seating.{mark_in}
use Rattle.workspace_lock.proofs.RowLemmas.{joins_from, gathered}
use Rattle.workspace_lock.proofs.seats.join_in.Goals as goal

pub join_seat-requires : goal.join_seat-requires
join_seat-requires c = (search rules, search rules, search rules, search rules, joins_from _ _ _ _ c.args.place.now.me c.into_place-other.result.me (mark_in c.args.seat) c.args.seat.turns c.requires.place.2 c.into_place-other.ensures.2)

pub returns : goal.returns
returns c = let g = gathered c.args.place.now.me c.into_place-other.result.me c.join_seat.new.seat.me (mark_in c.args.seat) c.args.seat.turns c.requires.place.2 c.into_place-other.ensures.2 c.into_place-other.ensures.3 c.join_seat.ensures.2 in
    (search rules, g.0, g.1)
