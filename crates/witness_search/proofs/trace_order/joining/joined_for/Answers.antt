use Rattle.std.proofs.Common.{ℕ, Option, IfOk, get_or, subst}
use Rattle.event_index.specs.Lookups.{base_of}
use Rattle.witness_search.specs.trace_order.Layout.{IsEither, IsNeededRow}
use Rattle.witness_search.proofs.trace_order.joining.joined_for.Goals as goal

pub returns-clause-row : goal.returns-clause-row
returns-clause-row c =
    let T = c.args.indexed.now.events in
    subst (λ (o : Option ℕ). IfOk c.joined_row.result (λ row. IsNeededRow T (IsEither o (base_of T c.args.second)) (λ t. get_or row.items t 0)))
    c.base.ensures.base
    (subst (λ (o : Option ℕ). IfOk c.joined_row.result (λ row. IsNeededRow T (IsEither c.base.result o) (λ t. get_or row.items t 0))) c.base-2.ensures.base
    c.joined_row.ensures.row)
