-- A question leaves the log and the block as they were; any other line is one of a script.
use Rattle.std.proofs.Common.{sym, ◌∙◌}
use Rattle.kept_session.proofs.QuestionLemmas.{question-answered, reading-answered}
use Rattle.kept_session.proofs.answering.answer_line.Goals as goal

pub returns-in-Some-clause-answered : goal.returns-in-Some-clause-answered
returns-in-Some-clause-answered c =
    question-answered c.args.bench.now.trace c.args.client c.args.number c.args.raw.now c.args.bench.now.log c.args.out.now.items c.answer_asked.new.out.items c.args.block.now
    c.in-Some.asked c.answer_asked.result (sym c.read_question.ensures ∙ c.in-Some.is) c.answer_asked.ensures

pub returns-in-None-clause-answered : goal.returns-in-None-clause-answered
returns-in-None-clause-answered c =
    reading-answered c.args.bench.now.trace c.args.client c.args.number c.args.raw.now c.args.bench.now.log c.answer_reading.new.bench.log c.args.out.now.items c.answer_reading.new.out.items
    c.args.block.now c.answer_reading.new.block c.answer_reading.result (sym c.read_question.ensures ∙ c.in-None.is) c.answer_reading.ensures.answered
