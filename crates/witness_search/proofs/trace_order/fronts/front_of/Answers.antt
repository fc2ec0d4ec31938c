use Rattle.std.proofs.Common.{◌≡◌, ◌<◌, ◌≤◌, sym, ap, ◌∙◌, arith}
use Rattle.std.proofs.lemmas.Bool.{false≢true}
use Rattle.event_index.specs.Lookups.{place_of}
use Rattle.shb_clocks.proofs.CallerLemmas.{thread_here}
use Rattle.witness_search.proofs.trace_order.FrontLemmas.{HasNoneUpTo-more, IsFront-none, IsFront-some, place_early, place_low, same_thread}
use Rattle.witness_search.proofs.trace_order.fronts.front_of.Goals as goal

pub loop-place-init : goal.loop-place-init
loop-place-init c = record {
  thread = c.event.result.thread;
  of = thread_here c.args.indexed.now.events c.args.event c.event.result c.event.ensures.found;
  are = c.thread_events-events.ensures.events;
  none = λ j low. absurd (omega (arith, low));
}

pub bounds-events-place : goal.bounds-events-place
bounds-events-place c =
    let inv = c.loop-place.invariant in
    place_low c.args.indexed.now.events c.args.event inv.thread inv.of c.thread_events-events.result.now inv.are c.loop-place.place
    (omega (arith, c.loop-place-test.true, c.place-place-end.ensures.place))

pub is_open-requires-clause-earlier : goal.is_open-requires-clause-earlier
is_open-requires-clause-earlier c =
    let inv = c.loop-place.invariant in
    place_early c.args.indexed.now.events c.args.event inv.thread inv.of c.thread_events-events.result.now inv.are c.loop-place.place
    (omega (arith, c.loop-place-test.true, c.place-place-end.ensures.place))

pub is_open-requires-clause-thread : goal.is_open-requires-clause-thread
is_open-requires-clause-thread c =
    let inv = c.loop-place.invariant in
    same_thread c.args.indexed.now.events c.args.event inv.thread inv.of c.thread_events-events.result.now inv.are c.loop-place.place
    (omega (arith, c.loop-place-test.true, c.place-place-end.ensures.place))

pub bounds-events-place-then-is_open : goal.bounds-events-place-then-is_open
bounds-events-place-then-is_open c =
    let inv = c.loop-place.invariant in
    place_low c.args.indexed.now.events c.args.event inv.thread inv.of c.thread_events-events.result.now inv.are c.loop-place.place
    (omega (arith, c.loop-place-test.true, c.place-place-end.ensures.place))

pub returns-then-is_open-clause-front : goal.returns-then-is_open-clause-front
returns-then-is_open-clause-front c =
    let inv = c.loop-place.invariant in
    IsFront-some c.args.indexed.now.events c.args.event inv.thread inv.of c.thread_events-events.result.now inv.are c.loop-place.place
    (omega (arith, c.loop-place-test.true, c.place-place-end.ensures.place)) inv.none (c.is_open.ensures.0 c.if-is_open.true)

pub loop-place-preserved : goal.loop-place-preserved
loop-place-preserved c =
    let inv = c.loop-place.invariant in
    record {
      thread = inv.thread;
      of = inv.of;
      are = inv.are;
      none = HasNoneUpTo-more c.args.indexed.now.events c.args.event c.loop-place.place c.thread_events-events.result.now inv.none
          (λ is. false≢true (sym c.if-is_open.false ∙ c.is_open.ensures.1 is));
    }

pub returns-clause-front : goal.returns-clause-front
returns-clause-front c =
    let inv = c.loop-place.invariant in
    IsFront-none c.args.indexed.now.events c.args.event inv.thread inv.of c.thread_events-events.result.now inv.are c.loop-place.place
    (omega (arith, c.loop-place-test.false, c.place-place-end.ensures.place)) inv.none
