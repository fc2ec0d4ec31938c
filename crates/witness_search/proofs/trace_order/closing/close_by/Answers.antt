use Rattle.std.proofs.Common.{◌+◌, length, get_or, ◌∙◌, arith}
use Rattle.std.proofs.lemmas.List.{length-set}
use Rattle.witness_search.specs.trace_order.Layout.{IsEither}
use Rattle.witness_search.proofs.trace_order.ClosingLemmas.{IsClosing-start, IsNeededRow-closed}
use Rattle.witness_search.proofs.trace_order.LoopLemmas.{behind_found, behind_none, zeros_at, nones_at, latest_named, visited_fits, advanced, smaller}
use Rattle.witness_search.proofs.trace_order.closing.close_by.Goals as goal

pub loop-next-init : goal.loop-next-init
loop-next-init c =
    let T = c.args.indexed.now.events in
    let row = c.take_in-2.new.row.items in
    let visited = c.args.visited.now.items in
    record {
      row = c.take_in-2.ensures.len;
      visited = c.requires.visited_len;
      locks = c.requires.latest_len;
      found = behind_found row visited c.as_slice.result.now c.as_slice-2.result.now c.behind-next.result c.as_slice.ensures.value c.as_slice-2.ensures.value c.behind-next.ensures.found;
      none = behind_none row visited c.as_slice.result.now c.as_slice-2.result.now c.behind-next.result c.as_slice.ensures.value c.as_slice-2.ensures.value c.behind-next.ensures.none;
      closing = IsClosing-start T c.threads-threads.ensures.disciplined c.args.first c.args.second
          (λ t. get_or c.args.row.now.items t 0) (λ t. get_or c.take_in.new.row.items t 0) (λ t. get_or row t 0) (λ t. get_or visited t 0) _
          (zeros_at _ c.args.row.now.items c.requires.row) (zeros_at _ visited c.requires.visited) (nones_at _ c.args.latest.now.items c.requires.latest)
          c.take_in.ensures.takes c.take_in-2.ensures.takes;
    }

pub visit-requires-clause-named : goal.visit-requires-clause-named
visit-requires-clause-named c =
    latest_named c.args.indexed.now.events (IsEither c.args.first c.args.second) (λ t. get_or c.loop-next.row.items t 0) (λ t. get_or c.loop-next.visited.items t 0) c.loop-next.latest.items
    c.loop-next.invariant.closing

pub overflow_add-index_mut : goal.overflow_add-index_mut
overflow_add-index_mut c =
    let inv = c.loop-next.invariant in
    omega (
      arith,
      c.threads-threads.ensures.well_formed.events,
      visited_fits c.args.indexed.now.events c.threads-threads.ensures.disciplined (IsEither c.args.first c.args.second)
          c.loop-next.row.items c.visit.new.row.items c.loop-next.visited.items c.loop-next.latest.items c.visit.new.latest.items
          inv.closing c.event_in-event.result c.in-Some.thread (length c.args.indexed.now.threads) inv.visited inv.row c.event_in-event.ensures.thread
          c.loop-next.next c.in-Some.is inv.found c.index.result.now c.index.ensures c.event_in-event.ensures.place c.index_mut.result.now c.index_mut.ensures.value,
    )

pub loop-next-smaller : goal.loop-next-smaller
loop-next-smaller c =
    let inv = c.loop-next.invariant in
    smaller c.args.indexed.now.events c.threads-threads.ensures.disciplined (IsEither c.args.first c.args.second)
    c.loop-next.row.items c.visit.new.row.items c.loop-next.visited.items c.loop-next.latest.items c.visit.new.latest.items
    inv.closing c.event_in-event.result c.in-Some.thread (length c.args.indexed.now.threads) inv.visited inv.row c.event_in-event.ensures.thread
    c.loop-next.next c.in-Some.is inv.found c.index.result.now c.index.ensures c.event_in-event.ensures.place c.index_mut.result.now c.index_mut.ensures.value c.visit.ensures.visit

pub loop-next-preserved : goal.loop-next-preserved
loop-next-preserved c =
    let inv = c.loop-next.invariant in
    let now = c.behind-next-in-Some in
    record {
      row = c.visit.ensures.len;
      visited = length-set c.loop-next.visited.items c.in-Some.thread (c.index_mut.result.now + 1) ∙ inv.visited;
      locks = c.visit.ensures.locks;
      found = behind_found _ _ c.as_slice-in-Some.result.now c.as_slice-in-Some-2.result.now now.result c.as_slice-in-Some.ensures.value c.as_slice-in-Some-2.ensures.value now.ensures.found;
      none = behind_none _ _ c.as_slice-in-Some.result.now c.as_slice-in-Some-2.result.now now.result c.as_slice-in-Some.ensures.value c.as_slice-in-Some-2.ensures.value now.ensures.none;
      closing = advanced c.args.indexed.now.events c.threads-threads.ensures.disciplined (IsEither c.args.first c.args.second)
          c.loop-next.row.items c.visit.new.row.items c.loop-next.visited.items c.loop-next.latest.items c.visit.new.latest.items
          inv.closing c.event_in-event.result c.in-Some.thread (length c.args.indexed.now.threads) inv.visited inv.row c.event_in-event.ensures.thread
          c.loop-next.next c.in-Some.is inv.found c.index.result.now c.index.ensures c.event_in-event.ensures.place c.index_mut.result.now c.index_mut.ensures.value c.visit.ensures.visit;
    }

pub returns-clause-row : goal.returns-clause-row
returns-clause-row c =
    IsNeededRow-closed c.args.indexed.now.events c.threads-threads.ensures.disciplined (IsEither c.args.first c.args.second)
    (λ t. get_or c.loop-next.row.items t 0) (λ t. get_or c.loop-next.visited.items t 0) (λ l. get_or c.loop-next.latest.items l _)
    c.loop-next.invariant.closing (c.loop-next.invariant.none c.in_default.is)

pub returns-clause-within : goal.returns-clause-within
returns-clause-within c = c.loop-next.invariant.closing.within
