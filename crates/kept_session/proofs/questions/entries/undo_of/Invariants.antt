-- None of the entries so far undoes it, so the search goes on behind them.
use Rattle.std.proofs.Common.{◌≡◌, ◌-◌, length, find}
use Rattle.std.specs.List.{range_with_len}
use Rattle.kept_session.specs.QuestionAnswers.{undo_of, undoes_at}
use Rattle.kept_session.proofs.questions.entries.undo_of.Given as goal

abbrev pub invariant-loop-at : goal.invariant-loop-at
invariant-loop-at l = undo_of l.bench.log l.number ≡ find (undoes_at l.bench.log l.number) (range_with_len l.at (length l.bench.log - l.at))
