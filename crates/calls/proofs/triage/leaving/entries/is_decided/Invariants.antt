use Rattle.std.proofs.Common.{◌≡◌, length}
use Rattle.calls.specs.triage.LeavingEntries.{is_decided}
use Rattle.calls.proofs.triage.leaving.entries.is_decided.Given as goal

abbrev pub invariant-entries : goal.invariant-entries
invariant-entries l = is_decided l.rows l.left l.cell l.cells ≡ is_decided l.rows l.entries l.cell l.cells

abbrev pub decreases-entries : goal.decreases-entries
decreases-entries l = length l.left
