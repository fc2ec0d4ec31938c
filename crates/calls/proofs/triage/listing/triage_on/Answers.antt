use Rattle.std.proofs.Common.{List, Option, subst, ℕ}
use Rattle.calls.proofs.triage.AnswerLemmas.{known-triaged, listed_text, written-triaged}
use Rattle.calls.specs.triage.Answers.{IsWritten}
use Rattle.calls.proofs.triage.listing.triage_on.Goals as goal

pub returns-in-Err-clause-triaged : goal.returns-in-Err-clause-triaged
returns-in-Err-clause-triaged g c = λ bytes read.
    known-triaged g.L.Source.rest c.args.known c.in-Err.fault bytes c.args.asked (g.K.Sink.taken c.args.writer.now) (read.0, c.args.indexed.now, read.1)
    c.in-Err.ensures.unread c.in-Err.ensures.given

pub returns-in-Ok-clause-triaged : goal.returns-in-Ok-clause-triaged
returns-in-Ok-clause-triaged g c = λ bytes read.
    let listed = listed_text g.L.Source.rest c.args.known c.in-Ok.listed c.in-Ok.ensures.read in (
      listed.0,
      listed.1,
      written-triaged bytes listed.0 c.args.known c.args.asked c.args.indexed.now (g.K.Sink.taken c.args.writer.now) (g.K.Sink.taken c.write_listing.new.writer) read c.write_listing.result
          (subst (λ (t : Option (List ℕ)). IsWritten c.args.indexed.now t c.args.asked (g.K.Sink.taken c.args.writer.now) (g.K.Sink.taken c.write_listing.new.writer) c.write_listing.result) listed.2
          c.write_listing.ensures.written),
    )
