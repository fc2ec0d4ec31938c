use Rattle.uses_report.specs.Between.{AreUsesTold}
use Rattle.calls.specs.pair.Uses.{IsUnused}
use Rattle.calls.proofs.pair.AnswerLemmas.{answered-unread, answered-written}
use Rattle.calls.proofs.pair.UsesLemmas.{unused-memory}
use Rattle.calls.proofs.pair.using.uses.Goals as goal

pub returns-in-Ok-clause-uses : goal.returns-in-Ok-clause-uses
returns-in-Ok-clause-uses g c =
    let read = c.in-Ok.ensures.read in
    let r = c.in-Ok.indexed in (
      read.0,
      read.1,
      answered-written (λ r text. AreUsesTold r c.args.one c.args.other text) (λ r fault. IsUnused r c.args.one c.args.other fault) r read.0 (g.K.Sink.taken c.args.writer.now) (g.K.Sink.taken c.write_table-outcome.new.writer) read.2 (unused-memory r c.args.one c.args.other) c.write_table-outcome.result c.write_table-outcome.ensures.written,
    )

pub returns-in-Err-clause-uses : goal.returns-in-Err-clause-uses
returns-in-Err-clause-uses g c =
    let unread = c.in-Err.ensures.unread in
    (unread.0, unread.1, answered-unread (λ r text. AreUsesTold r c.args.one c.args.other text) (λ r fault. IsUnused r c.args.one c.args.other fault) unread.0 (g.K.Sink.taken c.args.writer.now) c.in-Err.fault unread.2)
