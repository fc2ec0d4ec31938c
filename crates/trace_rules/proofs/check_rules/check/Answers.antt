use Rattle.std.proofs.Common.{◌≡◌, ◌<◌, length, None, inr, sym, ◌∙◌, arith, below_more}
use Rattle.trace_rules.specs.Rules.{breach_at}
use Rattle.trace_rules.proofs.CallerLemmas.{IsDisciplined-from_none, undisciplined-from_breach, is_first-first_breach, first_breach-from_none}
use Rattle.trace_rules.proofs.check_rules.check.Goals as goal

pub returns-in-Some-clause-refused : goal.returns-in-Some-clause-refused
returns-in-Some-clause-refused c =
    let within : c.loop-event.event < length c.args.raw.events = omega (arith, c.loop-event-test.true, c.len-event-end.ensures.len) in
    inr (is_first-first_breach _ _ (record { within = within; breach = sym c.breach.ensures ∙ c.in-Some.is; before = c.loop-event.invariant.kept }))

pub returns-in-Some-clause-undisciplined : goal.returns-in-Some-clause-undisciplined
returns-in-Some-clause-undisciplined c =
    let within : c.loop-event.event < length c.args.raw.events = omega (arith, c.loop-event-test.true, c.len-event-end.ensures.len) in
    inr (undisciplined-from_breach _ _ _ within (sym c.breach.ensures ∙ c.in-Some.is))

pub loop-event-preserved : goal.loop-event-preserved
loop-event-preserved c =
    record {
      tables = c.apply.ensures;
      kept = below_more (λ j. breach_at c.args.raw.events j ≡ None) c.loop-event.event c.loop-event.invariant.kept (sym c.breach.ensures ∙ c.in_default-breach.is);
    }

pub invariant_of-result : goal.invariant_of-result
invariant_of-result c =
    let none = IsDisciplined-from_none _ (λ j less. c.loop-event.invariant.kept j (omega (arith, c.loop-event-test.false, c.len-event-end.ensures.len))) in
    (c.len-event-end.ensures.well_formed, none)

pub returns-clause-disciplined : goal.returns-clause-disciplined
returns-clause-disciplined c = IsDisciplined-from_none _ (λ j less. c.loop-event.invariant.kept j (omega (arith, c.loop-event-test.false, c.len-event-end.ensures.len)))

pub returns-clause-accepted : goal.returns-clause-accepted
returns-clause-accepted c = first_breach-from_none _ (λ j less. c.loop-event.invariant.kept j (omega (arith, c.loop-event-test.false, c.len-event-end.ensures.len)))
