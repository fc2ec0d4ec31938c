use Rattle.std.proofs.Common.{subst}
use Rattle.client_scripts.specs.Replay.{of_two}
use Rattle.client_scripts.specs.Steps.{IsScriptRun}
use Rattle.client_scripts.proofs.ReplayLemmas.{unread-at, unread-second, replayed, run-not_read}
use Rattle.client_scripts.proofs.replaying.replay_on.Goals as goal

pub returns-in-Ok-clause-replay : goal.returns-in-Ok-clause-replay
returns-in-Ok-clause-replay g c first short is =
    let second = c.in-Ok.text.items in
    let old = g.K.Sink.taken c.args.writer.now in
    let new = g.K.Sink.taken c.replay_script.new.writer in (
      second,
      c.in-Ok.ensures.input.1,
      replayed (of_two first second) c.args.indexed short c.in-Ok.ensures.input.0 is old new c.replay_script.result
          (subst (λ s. IsScriptRun c.args.indexed s old new c.replay_script.result) c.deref.ensures.value c.replay_script.ensures.run),
    )

pub returns-in-Ok-clause-input : goal.returns-in-Ok-clause-input
returns-in-Ok-clause-input g c why e = run-not_read c.args.indexed c.deref.result.now (g.K.Sink.taken c.args.writer.now) (g.K.Sink.taken c.replay_script.new.writer) c.replay_script.result 1 why c.replay_script.ensures.run e

pub returns-in-Err-clause-replay : goal.returns-in-Err-clause-replay
returns-in-Err-clause-replay g c first short is =
    let fault = c.in-Err.fault in
    let second = unread-at 2 (g.R.Source.rest c.args.script.now) fault c.in-Err.ensures.input in
    (second.0, second.1, unread-second (of_two first second.0) (g.K.Sink.taken c.args.writer.now) (short, c.args.indexed, is) fault second.2)
