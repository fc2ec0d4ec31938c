use Rattle.std.proofs.Common.{ap}
use Rattle.rapid_text.specs.Operations.{is_write}
use Rattle.event_index.proofs.StepLemmas.{last_write-more, last_write-same, no_access}
use Rattle.event_index.proofs.scans.seen_by.Goals as goal

pub returns-in-Read-clause-table : goal.returns-in-Read-clause-table
returns-in-Read-clause-table c =
    last_write-same c.args.raw.now.events c.args.event _ c.event.result _ c.event.ensures.found (λ x. ap (is_write x) c.in-Read.is) c.requires.table

pub returns-in-Write-clause-table : goal.returns-in-Write-clause-table
returns-in-Write-clause-table c = last_write-more c.args.raw.now.events c.args.event _ _ c.event.result _ c.event.ensures.found c.in-Write.is c.requires.table

pub returns-in-Acquire : goal.returns-in-Acquire
returns-in-Acquire c =
    let none = no_access c.args.raw.now.events c.args.event _ c.event.result _ c.event.ensures.found c.in-Acquire.is c.requires.table in
    record { seen = none.0; table = none.1 }
