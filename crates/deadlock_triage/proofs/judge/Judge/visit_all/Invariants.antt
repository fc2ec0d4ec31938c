-- The rows after the pairs with the earlier requests so far.
use Rattle.std.proofs.Common.{slice_index}
use Rattle.deadlock_triage.specs.Rows.{AreRows}
use Rattle.deadlock_triage.proofs.judge.Judge.visit_all.Given as goal

abbrev pub invariant-loop-earlier : goal.invariant-loop-earlier
invariant-loop-earlier l =
    AreRows l.self.analysis.now (slice_index l.self.places.now) l.self.nested.now l.self.is_whole l.earlier l.later l.rows.patterns.keys l.rows.verdicts.items
