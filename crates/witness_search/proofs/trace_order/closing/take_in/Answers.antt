use Rattle.std.proofs.Common.{◌≡◌, ◌+◌, ◌<◌, max, length, get_or, ap₂, ◌∙◌, arith}
use Rattle.std.proofs.lemmas.List.{get_or_default}
use Rattle.witness_search.proofs.trace_order.TakeLemmas.{Takes-cell}
use Rattle.witness_search.proofs.trace_order.closing.take_in.Goals as goal

pub returns-in-Some-clause-takes : goal.returns-in-Some-clause-takes
returns-in-Some-clause-takes c =
    let T = c.args.indexed.now.events in
    let row = c.args.row.now.items in
    let v = c.event-thread.result in
    let low : v.thread < length row = omega (arith, c.event-thread.ensures.named.0, c.requires.len) in
    let read : c.index.result.now ≡ get_or row v.thread 0 = c.index.ensures ∙ get_or_default row v.thread c.index.result.now 0 low in
    Takes-cell T c.in-Some.event v c.event-thread.ensures.found row c.max.result low
    (c.max.ensures ∙ ap₂ (λ x y. max x (y + 1)) read c.place.ensures.place) c.args.event c.in-Some.is
