use Rattle.event_index.proofs.StepLemmas.{last_before-more}
use Rattle.event_index.proofs.scans.base_at.Goals as goal

pub returns-clause-table : goal.returns-clause-table
returns-clause-table c = last_before-more _ _ _ c.event-thread.result _ c.event-thread.ensures.found c.requires.table
