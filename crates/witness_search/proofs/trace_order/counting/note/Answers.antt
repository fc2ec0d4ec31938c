use Rattle.std.proofs.Common.{refl, sym, inl, inr}
use Rattle.std.proofs.lemmas.Bool.{ne_eqb}
use Rattle.witness_search.proofs.trace_order.counting.note.Goals as goal

pub returns-in_ok-insert : goal.returns-in_ok-insert
returns-in_ok-insert c =
    inl (
      c.in-Some.variable,
      c.in-Some.ensures.writes,
      c.in_ok-insert.ensures.updates.1,
      λ y other. c.in_ok-insert.ensures.updates.2 y (ne_eqb c.in-Some.variable y (λ is. other (sym is))),
    )

pub returns-in_default : goal.returns-in_default
returns-in_default c = inr (c.in_default.ensures.none refl, λ y. refl)
