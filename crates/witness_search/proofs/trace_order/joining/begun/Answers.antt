use Rattle.std.proofs.Common.{get_or}
use Rattle.witness_search.proofs.trace_order.JoinLemmas.{IsJoined-start}
use Rattle.witness_search.proofs.trace_order.LoopLemmas.{zeros_at}
use Rattle.witness_search.proofs.trace_order.joining.begun.Goals as goal

pub returns-clause-joined : goal.returns-clause-joined
returns-clause-joined c =
    IsJoined-start c.args.indexed.now.events c.threads.ensures.disciplined c.args.first c.args.second
    (λ t. get_or c.in_ok-row.row.items t 0) (λ t. get_or c.raise.new.row.items t 0) (λ t. get_or c.raise-2.new.row.items t 0)
    (zeros_at _ c.in_ok-row.row.items c.in_ok-row.ensures.items) c.raise.ensures.joins c.raise-2.ensures.joins
