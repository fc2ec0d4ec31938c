use Rattle.std.proofs.Common.{◌≡◌, refl, sym, ◌∙◌, arith}
use Rattle.std.proofs.lemmas.Option.{same_Some, none-some}
use Rattle.witness_search.specs.trace_order.Layout.{later, inner, earlier}
use Rattle.witness_search.proofs.trace_order.closing.step_of.Goals as goal

pub returns-then-event-last-clause-step : goal.returns-then-event-last-clause-step
returns-then-event-last-clause-step c = earlier c.in-Some.last c.in-Some.is c.if-event-last.true c.section.ensures.section refl

pub returns-in-None-clause-step : goal.returns-in-None-clause-step
returns-in-None-clause-step c =
    inner c.in-Some.last c.in-Some.is c.if-event-last.false
    (λ r ends. absurd (none-some r (sym (sym c.section-2.ensures.section ∙ c.in-None.is) ∙ ends))) refl refl

pub returns-then-end-event-clause-step : goal.returns-then-end-event-clause-step
returns-then-end-event-clause-step c =
    later c.in-Some.last c.in-Some-section.end c.in-Some.is c.if-event-last.false (sym c.section-2.ensures.section ∙ c.in-Some-section.is) c.if-end-event.true refl refl

pub returns-else-end-event-clause-step : goal.returns-else-end-event-clause-step
returns-else-end-event-clause-step c =
    inner c.in-Some.last c.in-Some.is c.if-event-last.false
    (λ r ends.
    let one : c.in-Some-section.end ≡ r = same_Some c.in-Some-section.end r (sym (sym c.section-2.ensures.section ∙ c.in-Some-section.is) ∙ ends) in
    omega (arith, one, c.if-end-event.false))
    refl refl
