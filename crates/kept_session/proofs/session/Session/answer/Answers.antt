use Rattle.std.proofs.Common.{◌≡◌, ◌∙◌, ◌⊎◌, inl, inr, refl, sym, subst, Err, rules}
use Rattle.std.specs.Prelude.{IfErr, IsErr}
use Rattle.client_scripts.specs.declared.fault.ReplayFault.TheVariants.{Write}
use Rattle.kept_session.specs.Views.{IsFailedBetween, IsTooLong, lines_in}
use Rattle.kept_session.specs.declared.fault.SessionFault.TheVariants.{Replay}
use Rattle.kept_session.proofs.WholeLemmas.{all_or_none, failed_release, put-since, put-released, turn-long, turn-put, turn-released}
use Rattle.kept_session.proofs.session.Session.answer.Goals as goal

pub returns-in_err-next-clause-any_moment : goal.returns-in_err-next-clause-any_moment
returns-in_err-next-clause-any_moment g c =
    let up = c.in_ok-catch_up.ensures in
    turn-put g.D.Device c.args.self.now.log c.catch_up.new.self.log c.make_piece.new.self.log up.lines.0 _ up.head up.lines.1 c.catch_up.ensures.any_moment c.make_piece.ensures.put.1.moments

pub returns-in-Ok-clause-any_moment : goal.returns-in-Ok-clause-any_moment
returns-in-Ok-clause-any_moment g c =
    let up = c.in_ok-catch_up.ensures in
    let put = c.in_ok-next.ensures.put in
    let worked = turn-put g.D.Device c.args.self.now.log c.catch_up.new.self.log c.make_piece.new.self.log up.lines.0 put.0 up.head up.lines.1 c.catch_up.ensures.any_moment put.1.moments in
    turn-released g.D.Device c.args.self.now.log c.catch_up.new.self.log c.make_piece.new.self.log up.lines.0 put.0 up.head up.lines.1 c.release-released.new.self worked c.in_ok-next.ensures.head put.2 c.release-released.ensures.any_moment

pub returns-in-Err-clause-any_moment : goal.returns-in-Err-clause-any_moment
returns-in-Err-clause-any_moment g c =
    let up = c.in_ok-catch_up.ensures in
    let put = c.in_ok-next.ensures.put in
    let worked = turn-put g.D.Device c.args.self.now.log c.catch_up.new.self.log c.make_piece.new.self.log up.lines.0 put.0 up.head up.lines.1 c.catch_up.ensures.any_moment put.1.moments in
    turn-released g.D.Device c.args.self.now.log c.catch_up.new.self.log c.make_piece.new.self.log up.lines.0 put.0 up.head up.lines.1 c.release-released.new.self worked c.in_ok-next.ensures.head put.2 c.release-released.ensures.any_moment

pub returns-in_err-next-clause-all_or_none : goal.returns-in_err-next-clause-all_or_none
returns-in_err-next-clause-all_or_none g c =
    let put = c.make_piece.ensures.put in
    let up = c.in_ok-catch_up.ensures in
    inr
    (all_or_none g.D.Device c.args.self.now.bench.trace _ _ _ _ _ c.args.self.now.log c.catch_up.new.self.log c.make_piece.new.self.log c.make_piece.new.self.log put.0
    c.catch_up.ensures.trace up.at_work.says up.at_work.at_rest up.turn c.catch_up.ensures.any_moment put.1 refl
    (put-since g.D.Device c.args.self.now.bench.trace _ _ _ _ _ c.args.self.now.log c.catch_up.new.self.log c.make_piece.new.self.log c.make_piece.new.self.log put.0 put.1))

pub returns-in-Ok-clause-all_or_none : goal.returns-in-Ok-clause-all_or_none
returns-in-Ok-clause-all_or_none g c =
    let put = c.in_ok-next.ensures.put in
    let up = c.in_ok-catch_up.ensures in
    inr
    (all_or_none g.D.Device c.args.self.now.bench.trace _ _ _ _ _ c.args.self.now.log c.catch_up.new.self.log c.make_piece.new.self.log c.release-released.new.self put.0
    c.catch_up.ensures.trace up.at_work.says up.at_work.at_rest up.turn c.catch_up.ensures.any_moment put.1 c.release-released.ensures.same.0
    (put-released g.D.Device c.args.self.now.bench.trace _ _ _ _ _ c.args.self.now.log c.catch_up.new.self.log c.make_piece.new.self.log c.release-released.new.self put.0 put.1 c.in_ok-next.ensures.head put.2 c.release-released.ensures.any_moment))

pub returns-in-Err-clause-all_or_none : goal.returns-in-Err-clause-all_or_none
returns-in-Err-clause-all_or_none g c =
    let put = c.in_ok-next.ensures.put in
    let up = c.in_ok-catch_up.ensures in
    inr
    (all_or_none g.D.Device c.args.self.now.bench.trace _ _ _ _ _ c.args.self.now.log c.catch_up.new.self.log c.make_piece.new.self.log c.release-released.new.self put.0
    c.catch_up.ensures.trace up.at_work.says up.at_work.at_rest up.turn c.catch_up.ensures.any_moment put.1 c.release-released.ensures.same.0
    (put-released g.D.Device c.args.self.now.bench.trace _ _ _ _ _ c.args.self.now.log c.catch_up.new.self.log c.make_piece.new.self.log c.release-released.new.self put.0 put.1 c.in_ok-next.ensures.head put.2 c.release-released.ensures.any_moment))

pub returns-in_err-next-clause-unwritten : goal.returns-in_err-next-clause-unwritten
returns-in_err-next-clause-unwritten g c =
    let fault = c.in_err-next.field-0.0 in
    let same : c.from_residual-in_err-next.result ≡ Err fault = search rules in
    subst
    (λ r. IfErr r (λ f. f ≡ Replay Write → IsFailedBetween g.D.Device c.args.self.now.log c.make_piece.new.self.log ⊎ IsTooLong g.D.Device c.args.self.now.bench.trace c.args.client c.args.first (lines_in c.args.piece.now) c.make_piece.new.self.log))
    (sym same)
    (λ is. turn-long g.D.Device c.args.self.now.bench.trace c.catch_up.new.self.bench.trace c.args.client c.args.first (lines_in c.args.piece.now) c.args.self.now.log c.catch_up.new.self.log c.make_piece.new.self.log c.catch_up.ensures.trace c.in_ok-catch_up.ensures.sound (c.in_err-next.ensures.unwritten is))

pub returns-in-Err-clause-unwritten : goal.returns-in-Err-clause-unwritten
returns-in-Err-clause-unwritten g c = λ _.
    let err : IsErr c.release-released.result = search rules in
    let failed = failed_release _ _ c.release-released.result c.release-released.ensures.cause c.release-released.ensures.only err in
    turn-long g.D.Device c.args.self.now.bench.trace c.args.self.now.bench.trace c.args.client c.args.first (lines_in c.args.piece.now) c.args.self.now.log c.make_piece.new.self.log c.release-released.new.self refl
    (c.in_ok-next.ensures.sound ∙ c.in_ok-catch_up.ensures.sound) (inl failed)
