use Rattle.race_triage.proofs.tables.Tables.verdict.Goals as goal

pub apart_row-requires-clause-never : goal.apart_row-requires-clause-never
apart_row-requires-clause-never c = c.is_apart.ensures.never c.if-is_apart.true
