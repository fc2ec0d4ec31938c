use Rattle.std.proofs.Common.{◌≢◌, sym, subst}
use Rattle.std.proofs.lemmas.Result.{IfErr-weaker}
use Rattle.kept_log.specs.declared.device.DeviceError.TheVariants.{Shorter}
use Rattle.kept_log.specs.Device.{Cut}
use Rattle.kept_log.proofs.MomentLemmas.{stepped, stepped_on, then_cause, is_not_shorter}
use Rattle.kept_log.proofs.FileLemmas.{cut_none, cut_whole}
use Rattle.kept_log.proofs.steps.cut_through.Goals as goal

pub returns-in_err-cut-clause-any_moment : goal.returns-in_err-cut-clause-any_moment
returns-in_err-cut-clause-any_moment g c =
    stepped g.D.Device c.args.device.now c.cut.new.self (Cut c.args.len) (g.met.D.Device.only_now c.args.device.now) c.requires.durable (cut_none _ _ c.requires.within) c.cut.ensures.time c.cut.ensures.crash

pub returns-clause-short : goal.returns-clause-short
returns-clause-short g c =
    subst (Cut c.args.len (g.D.Device.seen c.args.device.now)) (sym c.sync.ensures.seen) (cut_whole c.args.len (g.D.Device.seen c.args.device.now) _ c.requires.within c.in_ok-cut.ensures.cut)

pub returns-clause-any_moment : goal.returns-clause-any_moment
returns-clause-any_moment g c =
    stepped_on g.D.Device c.args.device.now c.cut.new.self (Cut c.args.len) (g.met.D.Device.only_now c.args.device.now) c.requires.durable (cut_none _ _ c.requires.within) c.cut.ensures.time c.cut.ensures.crash
    c.sync.new.self c.sync.ensures.time c.sync.ensures.crash

pub returns-clause-cause : goal.returns-clause-cause
returns-clause-cause g c = then_cause _ _ _ _ _ c.in_ok-cut.ensures.cause c.sync.ensures.cause

pub returns-clause-not_shorter : goal.returns-clause-not_shorter
returns-clause-not_shorter g c = IfErr-weaker c.sync.result _ (λ why. why ≢ Shorter) (λ why is. is_not_shorter why is) c.sync.ensures.only
