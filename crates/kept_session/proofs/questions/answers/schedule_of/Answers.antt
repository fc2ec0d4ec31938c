-- Each schedule of the workspace is one of the trace.
use Rattle.kept_session.proofs.QuestionRowLemmas.{schedule_trace}
use Rattle.kept_session.proofs.questions.answers.schedule_of.Goals as goal

pub returns-clause-trace : goal.returns-clause-trace
returns-clause-trace c = schedule_trace c.args.bench.now.trace c.workspace.result.now c.args.name.now c.get.result c.workspace.ensures.reorderings c.get.ensures.some
