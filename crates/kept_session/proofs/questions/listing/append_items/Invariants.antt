-- The items so far are those of the schedules so far.
use Rattle.std.proofs.Common.{◌≡◌, ◌++◌}
use Rattle.kept_session.specs.QuestionAnswers.{row_items}
use Rattle.kept_session.proofs.questions.listing.append_items.Given as goal

abbrev pub invariant-loop-at : goal.invariant-loop-at
invariant-loop-at l = l.out.items ≡ l.fn.out.items ++ row_items l.bench.log l.rows l.at
