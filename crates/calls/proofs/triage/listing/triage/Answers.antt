use Rattle.std.proofs.Common.{Err, ap}
use Rattle.client_scripts.specs.declared.fault.ReplayFault.{ReplayFault}
use Rattle.calls.proofs.triage.AnswerLemmas.{listed_bytes, of_trace_fault, unread-triaged}
use Rattle.calls.proofs.triage.listing.triage.Goals as goal

pub returns-in-Err-clause-triaged : goal.returns-in-Err-clause-triaged
returns-in-Err-clause-triaged g c =
    let unread = c.in-Err.ensures.unread in
    let listed = listed_bytes g.L.Source.rest c.args.known in (
      unread.0,
      listed.0,
      unread.1,
      listed.1,
      unread-triaged unread.0 listed.0 c.args.known c.args.asked (g.K.Sink.taken c.args.writer.now) c.in-Err.fault (λ e. c.in-Err.ensures.unwritten (ap (λ (f : ReplayFault). Err f) e)) (of_trace_fault unread.2),
    )

pub returns-in-Ok-clause-triaged : goal.returns-in-Ok-clause-triaged
returns-in-Ok-clause-triaged g c =
    let read = c.in-Ok.ensures.read in
    let found = c.triage_on.ensures.triaged read.0 read.2 in
    (read.0, found.0, read.1, found.1, found.2)
