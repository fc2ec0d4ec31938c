use Rattle.uses_report.specs.Between.{AreUsesTold}
use Rattle.calls.specs.pair.Uses.{IsUnused}
use Rattle.calls.proofs.pair.AnswerLemmas.{text-written}
use Rattle.calls.proofs.pair.using.write_table.Goals as goal

pub returns-clause-written : goal.returns-clause-written
returns-clause-written g c =
    text-written (λ r text. AreUsesTold r c.args.one c.args.other text) (λ r fault. IsUnused r c.args.one c.args.other fault) c.args.indexed.now
    (g.K.Sink.taken c.args.writer.now) (g.K.Sink.taken c.write_text.new.writer) c.in-Ok.text.items c.as_slice.result.now c.as_slice.ensures.value c.in-Ok.ensures.text
    c.write_text.result c.write_text.ensures.ok c.write_text.ensures.err c.write_text.ensures.why
