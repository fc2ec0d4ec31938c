use Rattle.std.proofs.Common.{Some, get_or, sym, ap, ◌∙◌, arith}
use Rattle.must_order.proofs.OwedLemmas.{last_place, counted_earlier}
use Rattle.must_order.proofs.BegunLemmas.{thread_cases}
use Rattle.must_order.proofs.owed.last_counted.Goals as goal

pub returns-clause-place : goal.returns-clause-place
returns-clause-place c =
    (last_place c.args.indexed.now.events c.args.thread (get_or c.args.row.now c.args.thread 0) c.thread_events.result.now c.thread_events.ensures.events c.requires.some (c.requires.begun.within c.args.thread)).1

pub returns-clause-earlier : goal.returns-clause-earlier
returns-clause-earlier c =
    let T = c.args.indexed.now.events in
    let own = thread_cases T c.args.event c.requires.event in
    let last = last_place T c.args.thread (get_or c.args.row.now c.args.thread 0) c.thread_events.result.now c.thread_events.ensures.events c.requires.some (c.requires.begun.within c.args.thread) in
    counted_earlier T c.requires.rules c.args.event own.0 own.1 (λ t. get_or c.args.row.now t 0) c.requires.begun c.args.thread _
    (λ is. c.requires.other (own.1 ∙ ap Some (sym is))) last.0 (omega (arith, last.1))
