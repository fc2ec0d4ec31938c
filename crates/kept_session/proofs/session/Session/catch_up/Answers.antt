use Rattle.std.specs.Result.{IfErr}
use Rattle.kept_session.specs.Faults.{IsLinesFault, IsTurnFault}
use Rattle.kept_session.proofs.CatchingLemmas.{failed_write, turn-lines, unread_turn}
use Rattle.std.proofs.Common.{Err, rules, arith, ◌-◌, ◌≡◌, ◌∙◌, sym, ap, subst, List, ℕ}
use Rattle.kept_log.specs.Lines.{kept_lines}
use Rattle.kept_log.specs.Log.{lines_of}
use Rattle.kept_log.specs.declared.turns.EnterError.TheVariants.{Unread, Unwritten}
use Rattle.kept_session.specs.Sessions.{log_behind, AreLogged}
use Rattle.kept_session.proofs.LogLemmas.{grown_log, grown_logged}
use Rattle.kept_session.proofs.session.Session.catch_up.Goals as goal

pub returns-in_ok-make_all-in-Ok-clause-at_work : goal.returns-in_ok-make_all-in-Ok-clause-at_work
returns-in_ok-make_all-in-Ok-clause-at_work g c =
    let made : log_behind c.args.self.now.bench.trace c.args.self.now.bench.log (kept_lines c.in-Ok.text.items) ≡ c.make_all.new.bench.log =
    ap (λ (t : List ℕ). log_behind c.args.self.now.bench.trace c.args.self.now.bench.log (kept_lines t)) (sym c.deref.ensures.value) ∙ sym c.in_ok-make_all-in-Ok.ensures.log in
    let more : AreLogged c.args.self.now.bench.trace c.args.self.now.bench.log (kept_lines c.in-Ok.text.items) =
    subst (λ (t : List ℕ). AreLogged c.args.self.now.bench.trace c.args.self.now.bench.log (kept_lines t)) c.deref.ensures.value c.in_ok-make_all-in-Ok.ensures.logged in
    record {
      at_rest = c.in-Ok.ensures.at_rest;
      says = grown_log _ _ (lines_of g.D.Device c.args.self.now.log) (kept_lines c.in-Ok.text.items) _ _ _ c.in_ok-make_all-in-Ok.ensures.trace c.in-Ok.ensures.lines c.requires.in_step.says made;
      logged = grown_logged _ _ (lines_of g.D.Device c.args.self.now.log) (kept_lines c.in-Ok.text.items) _ _ c.in_ok-make_all-in-Ok.ensures.trace c.in-Ok.ensures.lines c.requires.in_step.says c.requires.in_step.logged more;
    }

pub returns-in_err-make_all-in-Ok-clause-fault : goal.returns-in_err-make_all-in-Ok-clause-fault
returns-in_err-make_all-in-Ok-clause-fault g c =
    let fault = c.in_err-make_all-in-Ok.field-0.0 in
    let known = lines_of g.D.Device c.args.self.now.log in
    let seen = lines_of g.D.Device c.enter.new.self in
    let same : c.from_residual.result ≡ Err fault = search rules in
    let refused : IsLinesFault c.args.self.now.bench.trace c.args.self.now.bench.log (kept_lines c.in-Ok.text.items) fault =
    subst (λ (t : List ℕ). IsLinesFault c.args.self.now.bench.trace c.args.self.now.bench.log (kept_lines t) fault) c.deref.ensures.value c.in_err-make_all-in-Ok.ensures.refused in
    let before = g.D.Device.found c.args.self.now.log.device in
    let now = g.D.Device.found c.enter.new.self.device in
    let told : IsTurnFault c.args.self.now.bench.trace known seen before now fault =
    turn-lines c.args.self.now.bench.trace known (kept_lines c.in-Ok.text.items) seen before now c.args.self.now.bench.log fault c.in-Ok.ensures.lines c.requires.in_step.says c.requires.in_step.logged refused in
    subst (λ r. IfErr r (IsTurnFault c.args.self.now.bench.trace known seen before now)) (sym same) told

pub returns-in-Err-Unread-clause-fault : goal.returns-in-Err-Unread-clause-fault
returns-in-Err-Unread-clause-fault g c =
    let unread = c.unread.ensures in
    unread_turn c.args.self.now.bench.trace _ _ _ _ c.args.self.now.bench.log (c.line_behind.result - 1) c.requires.in_step.says c.requires.in_step.logged (omega (arith, c.line_behind.ensures)) _
    (λ is. c.in-Err-Unread.ensures.shorter (ap Err (c.in-Err-Unread.field-0-is ∙ ap Unread (sym c.in-Err-Unread.why-is ∙ is)))) c.unread.result unread.memory unread.failed unread.shorter

pub returns-in-Err-Unread-clause-unread : goal.returns-in-Err-Unread-clause-unread
returns-in-Err-Unread-clause-unread g c = λ is. c.in-Err-Unread.ensures.unread (ap Err (c.in-Err-Unread.field-0-is ∙ ap Unread (sym c.in-Err-Unread.why-is ∙ c.unread.ensures.read is)))

pub returns-in-Err-Unwritten-clause-unwritten : goal.returns-in-Err-Unwritten-clause-unwritten
returns-in-Err-Unwritten-clause-unwritten g c = λ is.
    let failed = failed_write _ (c.unwritten.ensures.write is) (λ shorter. c.in-Err-Unwritten.ensures.not_shorter (c.in-Err-Unwritten.field-0-is ∙ ap Unwritten (sym c.in-Err-Unwritten.why-is ∙ shorter))) in
    c.in-Err-Unwritten.ensures.unwritten (ap Err (c.in-Err-Unwritten.field-0-is ∙ ap Unwritten (sym c.in-Err-Unwritten.why-is ∙ failed)))
