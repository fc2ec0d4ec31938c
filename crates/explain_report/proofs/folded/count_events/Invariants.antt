-- With the events that are left, the tallies are those of all.
use Rattle.std.proofs.Common.{◌≡◌, drop, length}
use Rattle.explain_report.specs.RunTexts.{tallies_after}
use Rattle.explain_report.proofs.folded.count_events.Given as goal

abbrev pub invariant-loop-event : goal.invariant-loop-event
invariant-loop-event l =
    (tallies_after l.indexed.events l.tallies.items (drop l.event-index l.list) ≡ tallies_after l.indexed.events l.fn.tallies.items l.list)
    × (length l.tallies.items ≡ length l.indexed.threads)
