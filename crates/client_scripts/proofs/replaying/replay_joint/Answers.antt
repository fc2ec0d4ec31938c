use Rattle.std.proofs.Common.{subst}
use Rattle.client_scripts.specs.Replay.{IsReplay, of_joint}
use Rattle.client_scripts.proofs.ReplayLemmas.{unread-at, unread-first}
use Rattle.client_scripts.proofs.replaying.replay_joint.Goals as goal

pub returns-in-Ok-clause-replay : goal.returns-in-Ok-clause-replay
returns-in-Ok-clause-replay g c =
    let old = g.K.Sink.taken c.args.writer.now in
    let new = g.K.Sink.taken c.replay_parts.new.writer in (
      c.in-Ok.text.items,
      c.in-Ok.ensures.input.1,
      subst (λ t. IsReplay (of_joint t) old new c.replay_parts.result) c.deref.ensures.value c.replay_parts.ensures.replay,
    )

pub returns-in-Err-clause-replay : goal.returns-in-Err-clause-replay
returns-in-Err-clause-replay g c =
    let fault = c.in-Err.fault in
    let input = unread-at 1 (g.S.Source.rest c.args.reader.now) fault c.in-Err.ensures.input in
    (input.0, input.1, unread-first (of_joint input.0) (g.K.Sink.taken c.args.writer.now) fault input.2)
