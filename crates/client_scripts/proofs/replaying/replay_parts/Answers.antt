use Rattle.std.proofs.Common.{◌≡◌, ◌⊎◌, Ok, Err, subst, arith, rules}
use Rattle.client_scripts.specs.Joint.{trace_part}
use Rattle.client_scripts.specs.Replay.{of_joint}
use Rattle.client_scripts.specs.Steps.{IsScriptRun}
use Rattle.client_scripts.specs.Traces.{trace_of}
use Rattle.client_scripts.specs.declared.fault.ReplayFault.TheVariants.{OutOfMemory}
use Rattle.client_scripts.proofs.ReplayLemmas.{unloaded, unloaded-not_read, loaded, replayed, run-not_read}
use Rattle.client_scripts.proofs.replaying.replay_parts.Goals as goal

pub returns-in-Ok-clause-replay : goal.returns-in-Ok-clause-replay
returns-in-Ok-clause-replay g c =
    let indexed = c.in-Ok.indexed in
    let old = g.K.Sink.taken c.args.writer.now in
    let new = g.K.Sink.taken c.replay_script.new.writer in
    let is = subst (λ t. trace_of t ≡ Ok indexed) c.parts_of.ensures.trace (loaded _ indexed c.in-Ok.ensures) in
    replayed (of_joint c.args.text.now) indexed c.requires.short (omega arith) is old new c.replay_script.result
    (subst (λ s. IsScriptRun indexed s old new c.replay_script.result) c.parts_of.ensures.script c.replay_script.ensures.run)

pub returns-in-Ok-clause-input : goal.returns-in-Ok-clause-input
returns-in-Ok-clause-input g c input why e = run-not_read c.in-Ok.indexed c.parts_of.result.1.now (g.K.Sink.taken c.args.writer.now) (g.K.Sink.taken c.replay_script.new.writer) c.replay_script.result input why c.replay_script.ensures.run e

pub returns-in-Err-clause-replay : goal.returns-in-Err-clause-replay
returns-in-Err-clause-replay g c =
    let fault = c.in-Err.fault in
    let refused : (fault ≡ OutOfMemory) ⊎ (trace_of (trace_part c.args.text.now) ≡ Err fault) = search rules in
    unloaded (of_joint c.args.text.now) (g.K.Sink.taken c.args.writer.now) fault c.requires.short refused
