use Rattle.std.proofs.Common.{◌≢◌, sym, subst, length}
use Rattle.std.proofs.lemmas.Result.{IfErr-weaker}
use Rattle.kept_log.specs.declared.device.DeviceError.TheVariants.{Shorter}
use Rattle.kept_log.specs.Device.{Torn}
use Rattle.kept_log.proofs.MomentLemmas.{stepped, stepped_on, then_cause, is_not_shorter, failed_only}
use Rattle.kept_log.proofs.FileLemmas.{torn_none, torn_whole}
use Rattle.kept_log.proofs.steps.write_through.Goals as goal

pub returns-in_err-write_at-clause-any_moment : goal.returns-in_err-write_at-clause-any_moment
returns-in_err-write_at-clause-any_moment g c =
    stepped g.D.Device c.args.device.now c.write_at.new.self (Torn c.args.at (length c.args.bytes.now)) (g.met.D.Device.only_now c.args.device.now) c.requires.durable (torn_none _ _ _) c.write_at.ensures.time c.write_at.ensures.crash

pub returns-clause-torn : goal.returns-clause-torn
returns-clause-torn g c =
    subst (Torn c.args.at (length c.args.bytes.now) (g.D.Device.seen c.args.device.now)) (sym c.sync.ensures.seen) (torn_whole c.args.at (g.D.Device.seen c.args.device.now) c.args.bytes.now _ c.requires.within c.in_ok-write_at.ensures.written)

pub returns-clause-any_moment : goal.returns-clause-any_moment
returns-clause-any_moment g c =
    stepped_on g.D.Device c.args.device.now c.write_at.new.self (Torn c.args.at (length c.args.bytes.now)) (g.met.D.Device.only_now c.args.device.now) c.requires.durable (torn_none _ _ _) c.write_at.ensures.time c.write_at.ensures.crash
    c.sync.new.self c.sync.ensures.time c.sync.ensures.crash

pub returns-clause-cause : goal.returns-clause-cause
returns-clause-cause g c = then_cause _ _ _ _ _ c.in_ok-write_at.ensures.cause c.sync.ensures.cause

pub returns-clause-not_shorter : goal.returns-clause-not_shorter
returns-clause-not_shorter g c = IfErr-weaker c.sync.result _ (λ why. why ≢ Shorter) (λ why is. is_not_shorter why is) c.sync.ensures.only

pub returns-clause-memory : goal.returns-clause-memory
returns-clause-memory g c = λ is. absurd (failed_only c.sync.result c.sync.ensures.only is)
