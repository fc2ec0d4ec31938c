use Rattle.std.proofs.Common.{◌≡◌, [], inl, refl, Err, rules, sym, subst, ℕ, List}
use Rattle.std.specs.Io.KnownBytes.{Consumes}
use Rattle.std.specs.Result.{IfErr}
use Rattle.client_scripts.specs.declared.fault.ReplayFault.TheVariants.{OutOfMemory as NoMemory}
use Rattle.kept_session.specs.Runs.{IsHalted}
use Rattle.kept_session.specs.declared.fault.SessionFault.TheVariants.{Replay}
use Rattle.kept_session.proofs.RunLemmas.{Consumes-nothing, unanswered}
use Rattle.kept_session.proofs.running.run_session.Goals as goal

pub returns-in_err-piece-clause-halted : goal.returns-in_err-piece-clause-halted
returns-in_err-piece-clause-halted g c =
    let same : c.from_residual.result ≡ Err (Replay NoMemory) = search rules in
    subst
    (λ r. IfErr r
    (λ fault. (bytes : List ℕ) × Consumes (g.S.Source.rest c.args.reader.now) (g.S.Source.rest c.args.reader.now) bytes
    × IsHalted g.D.Device c.args.session.now.bench.trace c.args.client 1 c.args.session.now.log c.args.session.now.log bytes (g.K.Sink.has_failed c.args.writer.now) (g.K.Sink.taken c.args.writer.now) (g.K.Sink.taken c.args.writer.now) fault))
    (sym same) (
      [],
      Consumes-nothing (g.S.Source.rest c.args.reader.now),
      unanswered _ _ _ 1 c.args.session.now.log c.args.session.now.log [] _ (g.K.Sink.taken c.args.writer.now) (Replay NoMemory) c.requires.writer (inl (inl refl)) (inl (inl (inl refl))) (λ _. inl (inl refl)) (λ is. absurd cc) (λ is. absurd cc) tt (λ why is. absurd cc),
    )
