use Rattle.std.proofs.Common.{map}
use Rattle.std.proofs.lemmas.Result.{on_ok_weaker}
use Rattle.calls.proofs.ThreadsLemmas.{stopped-all, stopped-trace}
use Rattle.calls.proofs.threads_call.threads_with_room.Goals as goal

pub returns-in-Err-clause-fault : goal.returns-in-Err-clause-fault
returns-in-Err-clause-fault g c = stopped-trace _ _ _ _ c.in-Err.fault c.in-Err.ensures.unread

pub returns-in-Ok-clause-told : goal.returns-in-Ok-clause-told
returns-in-Ok-clause-told g c =
    let read = c.in-Ok.ensures.read in
    on_ok_weaker c.run_on.result
    (λ ran. (
      read.0,
      read.1,
      ran.2.0,
      record {
        trace = c.in-Ok.indexed;
        scripts = ran.0;
        short = read.2.0;
        trace_is = read.2.1;
        scripts_are = ran.1;
        told = ran.2.1;
      },
      ran.2.2,
    ))
    c.run_on.ensures.told

pub returns-in-Ok-clause-fault : goal.returns-in-Ok-clause-fault
returns-in-Ok-clause-fault g c =
    let read = c.in-Ok.ensures.read in
    stopped-all (g.S.Source.rest c.args.trace.now) (map (λ q. g.Q.Source.rest q) c.args.scripts.items) c.args.running.workers _ read.0 c.in-Ok.indexed c.run_on.result read.1 read.2.0 read.2.1 c.run_on.ensures.fault
