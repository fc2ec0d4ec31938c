-- The rows after the pairs of the later requests so far.
use Rattle.std.proofs.Common.{slice_index}
use Rattle.deadlock_triage.specs.Rows.{AreRows}
use Rattle.deadlock_triage.proofs.verdicts.verdicts_of.Given as goal

abbrev pub invariant-loop-later : goal.invariant-loop-later
invariant-loop-later l =
    AreRows l.judge.analysis.now (slice_index l.judge.places.now) l.judge.nested.now l.judge.is_whole 0 l.later l.rows.patterns.keys l.rows.verdicts.items
