use Rattle.std.proofs.Common.{get_or, refl}
use Rattle.witness_search.proofs.trace_order.AnswerLemmas.{IsInOrder-counted, IsLeastInOrder-list, list_read}
use Rattle.witness_search.proofs.trace_order.NeededLemmas.{sound_law}
use Rattle.witness_search.proofs.trace_order.listing.in_order.Goals as goal

pub returns-clause-list : goal.returns-clause-list
returns-clause-list c =
    let T = c.args.indexed.now.events in
    IsInOrder-counted T c.args.first c.args.second (λ t. get_or c.in_ok-row.row.items t 0) c.in-Ok.list c.in_ok-row.ensures.row
    (list_read T c.in_ok-row.row.items c.as_slice.result.now c.in-Ok.list c.as_slice.ensures.value c.in-Ok.ensures)

pub returns-clause-reordering : goal.returns-clause-reordering
returns-clause-reordering c =
    (sound_law c.args.indexed.now.events c.in-Ok.list c.args.first c.args.second c.in_ok-row.ensures.disciplined (returns-clause-list c)).0

pub returns-clause-shows : goal.returns-clause-shows
returns-clause-shows c =
    (sound_law c.args.indexed.now.events c.in-Ok.list c.args.first c.args.second c.in_ok-row.ensures.disciplined (returns-clause-list c)).1.1
    (c.in_ok-row.ensures.there refl)

pub returns-clause-least : goal.returns-clause-least
returns-clause-least c =
    IsLeastInOrder-list c.args.indexed.now.events c.in_ok-row.ensures.disciplined c.args.first c.args.second c.in-Ok.list (returns-clause-list c)
