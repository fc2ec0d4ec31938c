use Rattle.std.proofs.Common.{◌+◌, length, get_or, ◌∙◌, arith}
use Rattle.std.proofs.lemmas.List.{length-set}
use Rattle.witness_search.proofs.trace_order.LoopLemmas.{behind_found, behind_none, zeros_at}
use Rattle.lock_waits.proofs.GatherLemmas.{IsGathering-all, IsGathering-visited, advanced, smaller, unended_here, visited_fits}
use Rattle.lock_waits.proofs.requiring.gather.Goals as goal

pub loop-next-init : goal.loop-next-init
loop-next-init c =
    let T = c.args.indexed.now.events in
    let row = c.args.row.now.items in
    let visited = c.args.visited.now.items in
    record {
      row = c.requires.row_len;
      visited = c.requires.visited_len;
      found = behind_found row visited c.as_slice.result.now c.as_slice-2.result.now c.behind-next.result c.as_slice.ensures.value c.as_slice-2.ensures.value c.behind-next.ensures.found;
      none = behind_none row visited c.as_slice.result.now c.as_slice-2.result.now c.behind-next.result c.as_slice.ensures.value c.as_slice-2.ensures.value c.behind-next.ensures.none;
      gathering = IsGathering-visited T c.args.requests.now (length c.args.requests.now) (λ t. get_or row t 0) (λ t. get_or visited t 0) (zeros_at _ visited c.requires.visited) c.requires.gathering;
    }

pub overflow_add-index_mut : goal.overflow_add-index_mut
overflow_add-index_mut c =
    let inv = c.loop-next.invariant in
    omega (
      arith,
      c.threads-threads.ensures.well_formed.events,
      visited_fits c.args.indexed.now.events c.args.requests.now (length c.args.requests.now) c.loop-next.row.items c.end_section.new.row.items c.loop-next.visited.items
          inv.gathering c.event_in-event.result c.in-Some.thread (length c.args.indexed.now.threads) inv.visited inv.row c.event_in-event.ensures.thread
          c.loop-next.next c.in-Some.is inv.found c.index.result.now c.index.ensures c.event_in-event.ensures.place c.index_mut.result.now c.index_mut.ensures.value,
    )

pub loop-next-smaller : goal.loop-next-smaller
loop-next-smaller c =
    let inv = c.loop-next.invariant in
    smaller c.args.indexed.now.events c.args.requests.now (length c.args.requests.now) c.loop-next.row.items c.end_section.new.row.items c.loop-next.visited.items
    inv.gathering c.event_in-event.result c.in-Some.thread (length c.args.indexed.now.threads) inv.visited inv.row c.event_in-event.ensures.thread
    c.loop-next.next c.in-Some.is inv.found c.index.result.now c.index.ensures c.event_in-event.ensures.place c.index_mut.result.now c.index_mut.ensures.value
    (c.end_section.ensures.ending c.if-not-end_section.false)

pub loop-next-preserved : goal.loop-next-preserved
loop-next-preserved c =
    let inv = c.loop-next.invariant in
    let now = c.behind-next-in-Some in
    record {
      row = c.end_section.ensures.len;
      visited = length-set c.loop-next.visited.items c.in-Some.thread (c.index_mut.result.now + 1) ∙ inv.visited;
      found = behind_found _ _ c.as_slice-in-Some.result.now c.as_slice-in-Some-2.result.now now.result c.as_slice-in-Some.ensures.value c.as_slice-in-Some-2.ensures.value now.ensures.found;
      none = behind_none _ _ c.as_slice-in-Some.result.now c.as_slice-in-Some-2.result.now now.result c.as_slice-in-Some.ensures.value c.as_slice-in-Some-2.ensures.value now.ensures.none;
      gathering = advanced c.args.indexed.now.events c.args.requests.now (length c.args.requests.now) c.loop-next.row.items c.end_section.new.row.items c.loop-next.visited.items
          inv.gathering c.event_in-event.result c.in-Some.thread (length c.args.indexed.now.threads) inv.visited inv.row c.event_in-event.ensures.thread
          c.loop-next.next c.in-Some.is inv.found c.index.result.now c.index.ensures c.event_in-event.ensures.place c.index_mut.result.now c.index_mut.ensures.value
          (c.end_section.ensures.ending c.if-not-end_section.false);
    }

pub returns-then-not-end_section-clause-unended : goal.returns-then-not-end_section-clause-unended
returns-then-not-end_section-clause-unended c _ =
    let inv = c.loop-next.invariant in
    unended_here c.args.indexed.now.events c.args.requests.now (length c.args.requests.now) c.loop-next.row.items c.end_section.new.row.items c.loop-next.visited.items
    inv.gathering c.event_in-event.result c.in-Some.thread (length c.args.indexed.now.threads) inv.visited inv.row c.event_in-event.ensures.thread
    c.loop-next.next c.in-Some.is inv.found c.index.result.now c.index.ensures c.event_in-event.ensures.place
    (c.end_section.ensures.barred c.if-not-end_section.true)

pub returns-clause-gathered : goal.returns-clause-gathered
returns-clause-gathered c _ =
    IsGathering-all c.args.indexed.now.events c.args.requests.now (length c.args.requests.now) (λ t. get_or c.loop-next.row.items t 0) (λ t. get_or c.loop-next.visited.items t 0)
    c.loop-next.invariant.gathering (c.loop-next.invariant.none c.in_default.is)
