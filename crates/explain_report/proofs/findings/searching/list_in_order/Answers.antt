use Rattle.explain_report.proofs.findings.FindingLemmas.{has_no_list}
use Rattle.explain_report.proofs.findings.searching.list_in_order.Goals as goal

pub returns-else-wants_memory-clause-never : goal.returns-else-wants_memory-clause-never
returns-else-wants_memory-clause-never c _ = (simp c.indexed.ensures at c.in-Err.ensures.never_shown) (c.wants_memory.ensures c.if-wants_memory.false)

pub returns-else-wants_memory-clause-none : goal.returns-else-wants_memory-clause-none
returns-else-wants_memory-clause-none c _ =
    has_no_list c.args.analysis.now.events c.args.first c.args.second c.in-Err.refusal (simp c.indexed.ensures at c.in-Err.ensures.refused) (c.wants_memory.ensures c.if-wants_memory.false)
