use Rattle.calls.specs.pair.Answers.{IsExplanation, IsUnexplained}
use Rattle.calls.proofs.pair.AnswerLemmas.{answered-unread, answered-written, unexplained-memory}
use Rattle.calls.proofs.pair.explaining.explain.Goals as goal

pub returns-in-Ok-clause-explained : goal.returns-in-Ok-clause-explained
returns-in-Ok-clause-explained g c =
    let read = c.in-Ok.ensures.read in
    let r = c.in-Ok.indexed in (
      read.0,
      read.1,
      answered-written (λ r text. IsExplanation r c.args.one c.args.other c.args.all text) (λ r fault. IsUnexplained r c.args.one c.args.other fault) r read.0 (g.K.Sink.taken c.args.writer.now) (g.K.Sink.taken c.write_explanation-outcome.new.writer) read.2 (unexplained-memory r c.args.one c.args.other) c.write_explanation-outcome.result c.write_explanation-outcome.ensures.written,
    )

pub returns-in-Err-clause-explained : goal.returns-in-Err-clause-explained
returns-in-Err-clause-explained g c =
    let unread = c.in-Err.ensures.unread in
    (unread.0, unread.1, answered-unread (λ r text. IsExplanation r c.args.one c.args.other c.args.all text) (λ r fault. IsUnexplained r c.args.one c.args.other fault) unread.0 (g.K.Sink.taken c.args.writer.now) c.in-Err.fault unread.2)
