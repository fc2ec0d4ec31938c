use Rattle.witness_search.proofs.trace_order.TakeLemmas.{read_event}
use Rattle.lock_waits.proofs.requiring.event_in.Goals as goal

pub returns-clause-place : goal.returns-clause-place
returns-clause-place c =
    read_event c.args.indexed.now.events c.args.thread c.args.place c.thread_events.result.now c.thread_events.ensures.events c.requires.place
