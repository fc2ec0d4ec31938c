use Rattle.std.proofs.Common.{◌<◌, ◌≤◌, ◌∙◌, get_or, length, take, refl, sym, subst, arith, ℕ}
use Rattle.std.proofs.lemmas.List.{take_all, take_more}
use Rattle.std.proofs.lemmas.List.Elements.{All-get_or}
use Rattle.variable_uses.specs.Seen.{AreSeen}
use Rattle.variable_uses.proofs.SeenLemmas.{AreSeen-few, AreSeen-more, AreSeen-next}
use Rattle.variable_uses.proofs.threads.see_all.Goals as goal

pub see-requires-clause-few : goal.see-requires-clause-few
see-requires-clause-few c =
    AreSeen-few c.args.indexed.now.events c.args.numbers.now c.args.thread (take c.loop-event.event-index c.thread_events-events.result.now) c.loop-event.counts.items c.loop-event.lasts.items c.loop-event.invariant.seen

pub loop-event-preserved : goal.loop-event-preserved
loop-event-preserved c =
    let e : ℕ = get_or c.thread_events-events.result.now c.loop-event.event-index 0 in
    let within : get_or c.thread_events-events.result.now c.loop-event.event-index 0 < length c.args.numbers.now = omega (arith, c.thread_events-events.ensures.within c.loop-event.event-index 0 c.loop-event-test.true, c.requires.len) in
    record {
      same_len = c.see.ensures.len ∙ c.loop-event.invariant.same_len;
      lasts_len = omega (arith, c.see.ensures.lasts, c.loop-event.invariant.lasts_len, c.see.ensures.len);
      seen =
          subst (λ es. AreSeen c.args.indexed.now.events c.args.numbers.now c.args.thread es c.see.new.counts.items c.see.new.lasts.items) (sym (take_more c.thread_events-events.result.now c.loop-event.event-index 0 c.loop-event-test.true))
          (AreSeen-more c.args.indexed.now.events c.args.numbers.now c.args.thread (take c.loop-event.event-index c.thread_events-events.result.now) (get_or c.thread_events-events.result.now c.loop-event.event-index 0) c.loop-event.counts.items
          c.loop-event.lasts.items c.loop-event.invariant.seen (get_or c.args.numbers.now (get_or c.thread_events-events.result.now c.loop-event.event-index 0) 0) c.see.new.counts.items c.see.new.lasts.items c.loop-event.invariant.lasts_len refl
          (omega (arith, All-get_or (λ m. m ≤ length c.args.counts.now.items) c.args.numbers.now (get_or c.thread_events-events.result.now c.loop-event.event-index 0) 0 within c.requires.numbers, c.loop-event.invariant.same_len)) c.see.ensures.seen c.see.ensures.len);
    }

pub returns-clause-seen : goal.returns-clause-seen
returns-clause-seen c =
    let whole = take_all c.loop-event.event-index c.thread_events-events.result.now (omega (arith, c.loop-event-test.false)) ∙ c.thread_events-events.ensures.events in
    AreSeen-next c.args.indexed.now.events c.args.numbers.now c.args.thread c.loop-event.counts.items c.loop-event.lasts.items c.loop-event.invariant.lasts_len
    (subst (λ es. AreSeen c.args.indexed.now.events c.args.numbers.now c.args.thread es c.loop-event.counts.items c.loop-event.lasts.items) whole c.loop-event.invariant.seen)
