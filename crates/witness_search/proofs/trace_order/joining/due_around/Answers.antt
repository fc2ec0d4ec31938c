use Rattle.std.proofs.Common.{arith, inl, inr}
use Rattle.std.proofs.lemmas.Bool.{cases_lt}
use Rattle.witness_search.proofs.trace_order.joining.due_around.Goals as goal

pub returns-in-None-clause-none : goal.returns-in-None-clause-none
returns-in-None-clause-none c = λ none i lt.
    elim (cases_lt i c.args.near) [
      | inl low ↦ c.due_from-in-None.ensures.none none i (omega arith) (omega (arith, low, lt, c.min.ensures))
      | inr high ↦ c.due_from.ensures.none c.in-None.is i high lt
    ]
