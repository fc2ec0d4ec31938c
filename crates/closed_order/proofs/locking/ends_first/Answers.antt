use Rattle.std.proofs.Common.{sym, subst}
use Rattle.closed_order.specs.Closed.{ends}
use Rattle.closed_order.specs.Known.{IsBefore, events_in}
use Rattle.closed_order.proofs.StepLemmas.{EndsFirst-of}
use Rattle.closed_order.proofs.locking.ends_first.Goals as goal

pub returns : goal.returns
returns c so =
    let first =
    EndsFirst-of (events_in c.args.known.now) c.args.start c.args.step.first c.in-Some.inside c.in-Some-lock_of.lock c.in-Some-lock_of.ensures.acquires
    (c.ends_section.ensures c.if-not-ends_section.false) c.in-Some-thread_of.thread c.in-Some-thread_of.ensures (c.is_in_section.ensures c.if-not-is_in_section.false) (c.are_of_two_threads.ensures c.if-not-are_of_two_threads.false) in
    subst (IsBefore c.args.known.now c.args.step.first) (sym c.in-Some.is)
    (ends c.args.start c.args.step.first c.in-Some.inside first (c.is_said.ensures so))
