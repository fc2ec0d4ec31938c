use Rattle.std.proofs.Common.{◌≡◌, inl, inr, ⊎_elim, Err, rules, sym, subst}
use Rattle.std.specs.Result.{IfErr}
use Rattle.kept_session.specs.Runs.{IsHalted}
use Rattle.kept_session.proofs.RunLemmas.{log_turn, unanswered, unanswered_long, unanswered_whole, unwritten}
use Rattle.kept_session.proofs.running.answer_begun.Goals as goal

pub returns-in_err-pending-clause-halted : goal.returns-in_err-pending-clause-halted
returns-in_err-pending-clause-halted g c =
    let fault = c.in_err-pending.field-0.0 in
    let one = c.in_err-pending.ensures in
    let same : c.from_residual.result ≡ Err fault = search rules in
    let whole = unanswered_whole g.D.Device c.args.session.now.bench.trace c.args.client c.args.pending.now.number _ c.args.pending.now.begun.items c.args.session.now.log c.answer.new.self.log
    c.deref.ensures.value (⊎_elim (λ not. inl not.1) inr c.answer.ensures.all_or_none) in
    subst
    (λ r. IfErr r (IsHalted g.D.Device c.args.session.now.bench.trace c.args.client c.args.pending.now.number c.args.session.now.log c.answer.new.self.log c.args.pending.now.begun.items (g.K.Sink.has_failed c.args.writer.now) (g.K.Sink.taken c.args.writer.now) (g.K.Sink.taken c.args.writer.now)))
    (sym same)
    (unanswered _ _ _ c.args.pending.now.number c.args.session.now.log c.answer.new.self.log c.args.pending.now.begun.items _ (g.K.Sink.taken c.args.writer.now) fault c.requires.writer one.none_lost whole one.unchanged one.unread
    (unanswered_long g.D.Device c.args.session.now.bench.trace c.args.client c.args.pending.now.number _ c.args.pending.now.begun.items c.args.session.now.log c.answer.new.self.log fault c.deref.ensures.value one.unwritten) one.fault (λ why is. absurd (let e = one.input 3 why is in cc)))

pub returns-clause-halted : goal.returns-clause-halted
returns-clause-halted g c =
    let one = c.in_ok-pending.ensures in
    let wrote = c.in-Err.ensures in
    let turn = log_turn g.D.Device c.args.session.now.bench.trace c.args.client _ c.args.pending.now.number _ c.args.pending.now.begun.items c.args.session.now.log c.answer.new.self.log
    _ _ c.answer.new.out.items one.trace c.deref.ensures.value c.new-out.ensures.items (c.answer.new.self.in_step one.in_step).says one.head one.answers in
    unwritten _ _ _ _ _ _ c.args.pending.now.begun.items _ c.answer.new.out.items _ _ _ _ turn c.deref-2.ensures.value wrote.err wrote.failed c.from.ensures
