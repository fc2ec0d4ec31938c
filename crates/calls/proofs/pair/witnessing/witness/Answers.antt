use Rattle.calls.specs.pair.Answers.{IsUnwitnessed, IsWitness}
use Rattle.calls.proofs.pair.AnswerLemmas.{answered-unread, answered-written, unwitnessed-memory}
use Rattle.calls.proofs.pair.witnessing.witness.Goals as goal

pub returns-in-Ok-clause-witnessed : goal.returns-in-Ok-clause-witnessed
returns-in-Ok-clause-witnessed g c =
    let read = c.in-Ok.ensures.read in
    let r = c.in-Ok.indexed in (
      read.0,
      read.1,
      answered-written (λ r text. IsWitness r c.args.one c.args.other c.args.form text) (λ r fault. IsUnwitnessed r c.args.one c.args.other fault) r read.0 (g.K.Sink.taken c.args.writer.now) (g.K.Sink.taken c.write_witness-outcome.new.writer) read.2 (unwitnessed-memory r c.args.one c.args.other) c.write_witness-outcome.result c.write_witness-outcome.ensures.written,
    )

pub returns-in-Err-clause-witnessed : goal.returns-in-Err-clause-witnessed
returns-in-Err-clause-witnessed g c =
    let unread = c.in-Err.ensures.unread in
    (unread.0, unread.1, answered-unread (λ r text. IsWitness r c.args.one c.args.other c.args.form text) (λ r fault. IsUnwitnessed r c.args.one c.args.other fault) unread.0 (g.K.Sink.taken c.args.writer.now) c.in-Err.fault unread.2)
