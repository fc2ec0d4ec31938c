use Rattle.std.proofs.Common.{Err, ap}
use Rattle.client_scripts.proofs.ReplayLemmas.{script-refused, refused-not_write}
use Rattle.client_scripts.proofs.replaying.replay_script.Goals as goal

pub returns-in-Err-clause-run : goal.returns-in-Err-clause-run
returns-in-Err-clause-run g c =
    script-refused c.args.indexed c.args.text.now (g.K.Sink.taken c.args.writer.now) c.in-Err.refusal (Err c.from.result) (ap Err c.from.ensures) c.in-Err.ensures.refused

pub returns-in-Err-clause-write : goal.returns-in-Err-clause-write
returns-in-Err-clause-write g c write = absurd (refused-not_write c.in-Err.refusal (Err c.from.result) (ap Err c.from.ensures) write)
