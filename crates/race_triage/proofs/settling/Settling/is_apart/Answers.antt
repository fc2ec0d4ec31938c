use Rattle.race_triage.proofs.settling.Settling.is_apart.Goals as goal

pub returns : goal.returns
returns c so lt between = c.is_contradicted.ensures so
