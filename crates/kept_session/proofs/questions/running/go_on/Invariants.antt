-- What is left of the run comes after the events that were added.
use Rattle.std.proofs.Common.{◌≡◌, ◌-◌, length}
use Rattle.kept_session.specs.QuestionItems.{added, run_of}
use Rattle.kept_session.proofs.questions.running.go_on.Given as goal

abbrev pub invariant-loop-count : goal.invariant-loop-count
invariant-loop-count l =
    (l.schedule.trace ≡ l.indexed)
    × (run_of (length l.indexed.events) l.indexed.events l.fn.schedule.events l.thread l.last
    ≡ added l.count (run_of (length l.indexed.events - l.count) l.indexed.events l.schedule.events l.thread l.last))
