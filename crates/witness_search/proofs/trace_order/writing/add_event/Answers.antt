use Rattle.std.proofs.Common.{◌<◌, Some, length, refl, sym, ap, ◌∙◌, arith}
use Rattle.std.proofs.lemmas.Option.{slice_get-get_or}
use Rattle.witness_search.proofs.trace_order.WriteLemmas.{AreWrites-set, AreWrites-skip}
use Rattle.witness_search.proofs.trace_order.writing.add_event.Goals as goal

pub returns-in_ok-push : goal.returns-in_ok-push
returns-in_ok-push c =
    let r = c.args.indexed.now in
    let writes = c.args.writes.now.items in
    let x = c.in-Some.variable in
    let low : x < length writes = omega (arith, c.in-Some.ensures.named, c.requires.known.len) in
    AreWrites-set r c.args.event writes c.requires.known x c.index_mut.result.now c.push.new.self
    (slice_get-get_or writes x c.index_mut.result.now low ∙ ap Some (sym c.index_mut.ensures.value)) c.in-Some.ensures.writes c.in_ok-push.ensures.items

pub returns-in_default : goal.returns-in_default
returns-in_default c = AreWrites-skip c.args.indexed.now c.args.event c.args.writes.now.items c.requires.known (c.in_default.ensures.none refl)
