use Rattle.std.proofs.Common.{sym}
use Rattle.must_order.proofs.BegunLemmas.{thread_cases}
use Rattle.must_order.proofs.HeldLemmas.{IsHeldFrom-last, not_held, not_held_from}
use Rattle.must_order.proofs.sections.Sections.holder.Goals as goal

pub returns-in-None-clause-none : goal.returns-in-None-clause-none
returns-in-None-clause-none c =
    λ _ held. not_held c.args.indexed.now.events c.len.ensures.disciplined c.args.event c.args.lock (sym c.in-None.ensures.last) held

pub returns-then-is_held_from-clause-some : goal.returns-then-is_held_from-clause-some
returns-then-is_held_from-clause-some c =
    let T = c.args.indexed.now.events in
    let own = thread_cases T c.args.event c.requires.event in
    let within = c.is_held_from.ensures.within c.if-is_held_from.true in
    IsHeldFrom-last T c.len.ensures.disciplined c.args.event c.args.lock c.in-Some.begun own.0 own.1 (sym c.in-Some.ensures.last) within.0 within.1

pub returns-else-is_held_from-clause-none : goal.returns-else-is_held_from-clause-none
returns-else-is_held_from-clause-none c =
    λ _ held. not_held_from c.args.indexed.now.events c.len.ensures.disciplined c.args.event c.args.lock c.in-Some.begun (sym c.in-Some.ensures.last) (c.is_held_from.ensures.outside c.if-is_held_from.false) held
