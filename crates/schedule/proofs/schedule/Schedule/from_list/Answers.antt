use Rattle.std.proofs.Common.{◌≡◌, ◌<◌, length, take, slice_index, Some, ap, sym, subst, ◌∙◌, arith, rules}
use Rattle.std.proofs.lemmas.List.{take_all}
use Rattle.schedule.specs.Faults.{IsFirstFault, refusal_at}
use Rattle.schedule.specs.Refusals.{refusal_of}
use Rattle.schedule.specs.Reordering.{IsCorrectReordering}
use Rattle.schedule.specs.Tables.{AreTables}
use Rattle.schedule.proofs.FaultLemmas.{IsFirstFault-refused}
use Rattle.schedule.proofs.schedule.Schedule.from_list.Goals as goal

pub returns-in-Err-Disabled-clause-refused : goal.returns-in-Err-Disabled-clause-refused
returns-in-Err-Disabled-clause-refused c =
    let T = c.args.indexed.now.events in
    let P = c.args.events.now in
    let i = c.loop-event.event-index in
    let lt : i < length P = search (rules, arith) in
    let grown : c.loop-event.schedule.events ≡ take i P = c.loop-event.invariant.1 in
    let same : c.loop-event.schedule.trace.events ≡ T = ap (λ r. r.events) c.loop-event.invariant.0 in
    let here : length c.events.result.now ≡ i = search (rules, arith) in
    let is : IsCorrectReordering c.loop-event.schedule.trace.events c.loop-event.schedule.events = search rules in
    let sound : IsCorrectReordering T (take i P) =
    subst (λ xs. IsCorrectReordering T xs) grown (subst (λ U. IsCorrectReordering U c.loop-event.schedule.events) same is) in
    let refused : refusal_of c.loop-event.schedule.trace.events c.loop-event.schedule.events (slice_index P i) ≡ Some c.in-Err-Disabled.cause = search rules in
    let at : refusal_at T P i ≡ Some c.in-Err-Disabled.cause =
    sym (ap (λ xs. refusal_of T xs (slice_index P i)) grown) ∙ sym (ap (λ U. refusal_of U c.loop-event.schedule.events (slice_index P i)) same) ∙ refused in
    let fault : IsFirstFault T P i = IsFirstFault-refused T P i c.in-Err-Disabled.cause lt sound at in
    (subst (IsFirstFault T P) (sym here) fault, ap (refusal_at T P) here ∙ at ∙ ap Some (sym c.in-Err-Disabled.cause-is))

pub returns-clause-reordering : goal.returns-clause-reordering
returns-clause-reordering c =
    let T = c.args.indexed.now.events in
    let P = c.args.events.now in
    let all : take c.loop-event.event-index P ≡ P = take_all c.loop-event.event-index P (search (rules, arith)) in
    subst (IsCorrectReordering T) all c.loop-event.invariant.2

pub invariant_of-schedule : goal.invariant_of-schedule
invariant_of-schedule c =
    let T = c.schedule-2.inside.trace.value.events in
    let P = c.schedule-2.inside.events.items in
    let same : c.deref_mut.result.now ≡ c.schedule-2.inside.tables.value = search rules in (
      c.schedule-2.invariant.0,
      c.schedule-2.invariant.1,
      c.schedule-2.invariant.2,
      c.trim.ensures T P (subst (AreTables T P) (sym same) c.schedule-2.invariant.3),
    )
