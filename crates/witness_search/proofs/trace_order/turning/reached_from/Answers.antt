use Rattle.std.proofs.Common.{◌≡◌, ℕ, List, get_or, length, nat_eq, refl, sym, ap, ◌∙◌, subst}
use Rattle.std.specs.HashMap.{get}
use Rattle.std.specs.Map.{lookup}
use Rattle.witness_search.specs.trace_order.Counting.{IsAt, counted_events}
use Rattle.witness_search.proofs.trace_order.StandLemmas.{IsAt-start}
use Rattle.witness_search.proofs.trace_order.turning.reached_from.Goals as goal

pub returns-clause-row : goal.returns-clause-row
returns-clause-row c = ap length (c.in_ok-row.ensures.items ∙ c.as_slice.ensures.value) ∙ c.requires.aim.start

pub returns-clause-at : goal.returns-clause-at
returns-clause-at c =
    let T = c.args.indexed.now.events in
    let start = c.args.aim.now.start.items in
    subst (λ (xs : List ℕ). IsAt T (λ t. get_or start t 0) (λ t. get_or xs t 0) (get nat_eq c.new.result) (counted_events T (λ t. get_or start t 0)))
    (sym (c.in_ok-row.ensures.items ∙ c.as_slice.ensures.value))
    (IsAt-start T c.len-len.ensures.disciplined (λ t. get_or start t 0) c.requires.aim.correct c.requires.aim.within
    (get nat_eq c.new.result) (λ x. ap (lookup (nat_eq x)) c.new.ensures.empty))
