use Rattle.std.proofs.Common.{◌<◌, length, set, refl, ap, arith}
use Rattle.std.proofs.lemmas.Option.{slice_get_read}
use Rattle.event_index.proofs.CallerLemmas.{thread_here}
use Rattle.variable_uses.specs.Edges.{other, of_race}
use Rattle.variable_uses.proofs.order.note_edge.Goals as goal

pub returns-then-not-is_race-clause-noted : goal.returns-then-not-is_race-clause-noted
returns-then-not-is_race-clause-noted c = other c.if-not-is_race.true refl refl

pub returns-clause-noted : goal.returns-clause-noted
returns-clause-noted c =
    let firsts = c.args.firsts.now.items in
    let t = c.event-thread.result.thread in
    let in_firsts : c.event-thread.result.thread < length c.args.firsts.now.items = omega (arith, c.event-thread.ensures.named.0, c.requires.firsts) in
    of_race t c.index.result.now c.if-not-is_race.false (thread_here c.args.indexed.now.events c.args.event c.event-thread.result c.event-thread.ensures.found) in_firsts (omega (arith, c.event-thread.ensures.named.0, c.requires.lasts))
    (slice_get_read firsts (length firsts) t c.index.result.now refl in_firsts c.index.ensures) (ap (set firsts t) c.or.ensures) refl
