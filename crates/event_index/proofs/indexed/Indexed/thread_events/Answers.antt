use Rattle.event_index.proofs.CallerLemmas.{events_of-within, events_of-thread, events_of-length}
use Rattle.event_index.proofs.ReadLemmas.{part_read}
use Rattle.event_index.proofs.indexed.Indexed.thread_events.Goals as goal

pub returns-clause-within : goal.returns-clause-within
returns-clause-within c =
    rw (part_read _ _ _ c.self.view_is c.self.invariant.disciplined c.self.invariant.tables _ _ _ _ c.requires c.deref.ensures.value c.index.ensures c.index-2.ensures)
    (events_of-within _ c.args.thread)

pub returns-clause-thread : goal.returns-clause-thread
returns-clause-thread c =
    rw (part_read _ _ _ c.self.view_is c.self.invariant.disciplined c.self.invariant.tables _ _ _ _ c.requires c.deref.ensures.value c.index.ensures c.index-2.ensures)
    (events_of-thread _ c.args.thread)

pub returns-clause-len : goal.returns-clause-len
returns-clause-len c =
    rw (part_read _ _ _ c.self.view_is c.self.invariant.disciplined c.self.invariant.tables _ _ _ _ c.requires c.deref.ensures.value c.index.ensures c.index-2.ensures)
    (events_of-length _ c.args.thread)
