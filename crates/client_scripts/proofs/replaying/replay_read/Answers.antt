use Rattle.std.proofs.Common.{subst}
use Rattle.client_scripts.specs.Steps.{IsRun}
use Rattle.client_scripts.proofs.ReplayLemmas.{script-run}
use Rattle.client_scripts.proofs.replaying.replay_read.Goals as goal

pub returns-in-Ok-clause-run : goal.returns-in-Ok-clause-run
returns-in-Ok-clause-run g c =
    let old = g.K.Sink.taken c.args.writer.now in
    let new = g.K.Sink.taken c.run-outcome.new.writer in
    script-run c.args.indexed c.args.text.now c.args.script.now old new c.run-outcome.result c.requires.read
    (subst (λ trace. IsRun trace c.args.script.now old new c.run-outcome.result) c.in-Ok.ensures.trace c.run-outcome.ensures.run)
