use Rattle.std.proofs.Common.{◌≡◌, ◌-◌, ◌<◌, length, get_or, sym, ◌∙◌, subst, arith, ℕ}
use Rattle.event_index.specs.Lookups.{place_of}
use Rattle.witness_search.specs.trace_order.Tables.{IsNextAfter}
use Rattle.witness_search.proofs.trace_order.ReachLemmas.{bound_before, IsNextAfter-place}
use Rattle.witness_search.proofs.trace_order.reaching.before.Goals as goal

pub bounds-thread_events-place : goal.bounds-thread_events-place
bounds-thread_events-place c =
    let T = c.args.indexed.now.events in
    omega (
      arith,
      c.place-place.ensures.place,
      bound_before T c.args.event c.event-thread.result c.event-thread.ensures.found c.thread_events.result.now c.thread_events.ensures.events
          (λ none. c.if-place-eq0.false (c.place-place.ensures.place ∙ none)),
    )

pub returns-clause-before : goal.returns-clause-before
returns-clause-before c =
    let T = c.args.indexed.now.events in
    subst (λ (k : ℕ). IsNextAfter T (get_or c.thread_events.result.now (k - 1) 0) c.args.event) (sym c.place-place.ensures.place)
    (IsNextAfter-place T c.args.event c.event-thread.result c.event-thread.ensures.found c.thread_events.result.now c.thread_events.ensures.events
    (λ none. c.if-place-eq0.false (c.place-place.ensures.place ∙ none)))
