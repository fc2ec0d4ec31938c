use Rattle.std.proofs.Common.{◌≡◌, get_or, nat_eq}
use Rattle.witness_search.proofs.trace_order.StandLemmas.{IsAt-step}
use Rattle.witness_search.proofs.trace_order.counting.take_step.Goals as goal

pub returns-clause-at : goal.returns-clause-at
returns-clause-at c =
    λ P start at unrefused.
    IsAt-step c.args.indexed.now c.len-len.ensures.well_formed c.len-len.ensures.disciplined start (λ t. get_or c.args.reached.now.row.items t 0)
    (λ t. get_or c.count_up.new.row.items t 0) _ _ P at c.args.event unrefused c.count_up.ensures.up c.in_ok-note.ensures
