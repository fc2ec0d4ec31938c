use Rattle.std.proofs.Common.{get_or}
use Rattle.witness_search.proofs.trace_order.AnswerLemmas.{IsInOrder-counted, list_read}
use Rattle.witness_search.proofs.trace_order.NeededLemmas.{sound_law}
use Rattle.witness_search.proofs.trace_order.turning.list_before.Goals as goal

pub returns-clause-needed : goal.returns-clause-needed
returns-clause-needed c =
    let T = c.args.indexed.now.events in
    IsInOrder-counted T c.args.fronts.0 c.args.fronts.1 (λ t. get_or c.in_ok-row.row.items t 0) c.in_ok-list.list c.in_ok-row.ensures.row
    (list_read T c.in_ok-row.row.items c.as_slice.result.now c.in_ok-list.list c.as_slice.ensures.value c.in_ok-list.ensures)

pub returns-clause-reordering : goal.returns-clause-reordering
returns-clause-reordering c =
    (sound_law c.args.indexed.now.events c.in_ok-list.list c.args.fronts.0 c.args.fronts.1 c.len-len.ensures.disciplined (returns-clause-needed c)).0
