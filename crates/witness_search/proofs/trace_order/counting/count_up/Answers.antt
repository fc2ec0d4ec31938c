use Rattle.std.proofs.Common.{◌≡◌, ◌<◌, get_or, length, ◌∙◌, arith}
use Rattle.std.proofs.lemmas.List.{get_or_default}
use Rattle.event_index.proofs.CallerLemmas.{events_of-length}
use Rattle.witness_search.proofs.trace_order.SearchLemmas.{IsUp-set}
use Rattle.witness_search.proofs.trace_order.counting.count_up.Goals as goal

pub overflow_add-index_mut : goal.overflow_add-index_mut
overflow_add-index_mut c =
    let r = c.args.indexed.now in
    let row = c.args.row.now.items in
    let t = c.event-thread.result.thread in
    let low : t < length row = omega (arith, c.event-thread.ensures.named.0, c.requires.len) in
    let read : c.index_mut.result.now ≡ get_or row t 0 = c.index_mut.ensures.value ∙ get_or_default row t c.index_mut.result.now 0 low in
    omega (arith, read, c.requires.within t, events_of-length r.events t, c.event-thread.ensures.well_formed.events)

pub returns-clause-up : goal.returns-clause-up
returns-clause-up c =
    let low : c.event-thread.result.thread < length c.args.row.now.items = omega (arith, c.event-thread.ensures.named.0, c.requires.len) in
    IsUp-set c.args.indexed.now.events c.args.event c.event-thread.result c.event-thread.ensures.found c.args.row.now.items c.index_mut.result.now
    c.index_mut.ensures.value low
