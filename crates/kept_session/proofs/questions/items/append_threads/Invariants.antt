-- The items so far are those of the threads so far.
use Rattle.std.proofs.Common.{◌≡◌, ◌++◌}
use Rattle.kept_session.specs.QuestionItems.{thread_items}
use Rattle.kept_session.proofs.questions.items.append_threads.Given as goal

abbrev pub invariant-loop-thread : goal.invariant-loop-thread
invariant-loop-thread l = l.out.items ≡ l.fn.out.items ++ thread_items l.indexed.events l.schedule.events l.thread
