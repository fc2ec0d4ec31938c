use Rattle.std.proofs.Common.{Some, sym, ap, ◌∙◌}
use Rattle.std.proofs.lemmas.Option.{same_Some}
use Rattle.event_index.proofs.CallerLemmas.{op_here, thread_here}
use Rattle.must_order.proofs.ReasonLemmas.{fork_of-source}
use Rattle.must_order.proofs.reasons.source_reason.Goals as goal

pub returns-else-event-thread-clause-reason : goal.returns-else-event-thread-clause-reason
returns-else-event-thread-clause-reason c =
    let T = c.args.indexed.now.events in
    let op = op_here T c.args.event c.event.result c.event.ensures.found ∙ ap Some c.in-Join.is in (
      c.in-Join.thread,
      op,
      fork_of-source T c.args.event c.in-Join.thread c.args.source op c.requires.source
          (λ is. c.if-event-thread.false (same_Some _ _ (sym (thread_here T c.args.source c.event-in-Join.result c.event-in-Join.ensures.found) ∙ is))),
    )
