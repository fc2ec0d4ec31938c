use Rattle.std.proofs.Common.{Err, ap}
use Rattle.client_scripts.specs.declared.fault.ReplayFault.{ReplayFault}
use Rattle.client_scripts.proofs.ReplayLemmas.{told, unread-trace}
use Rattle.client_scripts.proofs.replaying.replay.Goals as goal

pub returns-in-Ok-clause-replay : goal.returns-in-Ok-clause-replay
returns-in-Ok-clause-replay g c =
    let read = c.in-Ok.ensures.read in
    let ran = c.replay_on.ensures.replay read.0 read.2.0 read.2.1 in
    (read.0, ran.0, read.1, ran.1, ran.2)

pub returns-in-Err-clause-replay : goal.returns-in-Err-clause-replay
returns-in-Err-clause-replay g c =
    let unread = c.in-Err.ensures.unread in
    let second = told (g.R.Source.rest c.args.script.now) in (
      unread.0,
      second.0,
      unread.1,
      second.1,
      unread-trace unread.0 second.0 (g.K.Sink.taken c.args.writer.now) c.in-Err.fault
          (λ why e. c.in-Err.ensures.input why (ap (λ (f : ReplayFault). Err f) e))
          (λ refusal e. c.in-Err.ensures.no_script refusal (ap (λ (f : ReplayFault). Err f) e))
          unread.2,
    )
