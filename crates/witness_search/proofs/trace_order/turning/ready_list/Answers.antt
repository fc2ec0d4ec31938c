use Rattle.std.proofs.Common.{get_or}
use Rattle.witness_search.proofs.trace_order.AnswerLemmas.{list_read}
use Rattle.witness_search.proofs.trace_order.TurnLemmas.{AreNeeded-row, IsReady-needed, IsCorrectReordering-ready}
use Rattle.witness_search.proofs.trace_order.turning.ready_list.Goals as goal

pub returns-clause-needed : goal.returns-clause-needed
returns-clause-needed c =
    let T = c.args.indexed.now.events in
    AreNeeded-row T c.args.event c.base.result (λ t. get_or c.in_ok-row.row.items t 0) c.in_ok-list.list c.base.ensures.base c.in_ok-row.ensures.row
    (list_read T c.in_ok-row.row.items c.as_slice.result.now c.in_ok-list.list c.as_slice.ensures.value c.in_ok-list.ensures)

pub returns-clause-ready : goal.returns-clause-ready
returns-clause-ready c =
    IsReady-needed c.args.indexed.now.events c.len-len.ensures.disciplined c.args.event c.in_ok-list.list c.requires.event (returns-clause-needed c)

pub returns-clause-reordering : goal.returns-clause-reordering
returns-clause-reordering c =
    IsCorrectReordering-ready c.args.indexed.now.events c.len-len.ensures.disciplined c.args.event c.in_ok-list.list c.requires.event (returns-clause-needed c)
