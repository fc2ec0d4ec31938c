use Rattle.explain_report.proofs.findings.searching.open_pair.Goals as goal

pub beyond_order-requires-clause-never : goal.beyond_order-requires-clause-never
beyond_order-requires-clause-never c = c.in_ok-list.ensures.never c.in-None.is
