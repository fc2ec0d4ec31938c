use Rattle.std.proofs.Common.{◌≡◌, ◌∙◌, inr, List, ℕ, length, take, ap, subst, arith, rules}
use Rattle.kept_log.specs.declared.log.OpenError.TheVariants.{Device}
use Rattle.kept_session.proofs.CatchingLemmas.{failed_write}
use Rattle.kept_session.proofs.opening.open_log.Goals as goal

pub returns-in-Ok-open-clause-begins : goal.returns-in-Ok-open-clause-begins
returns-in-Ok-open-clause-begins g c = subst (λ (t : List ℕ). take (length c.args.head.now) t ≡ c.args.head.now) c.in-Ok.ensures.bytes c.in-Ok-open.ensures.begins

pub returns-clause-back : goal.returns-clause-back
returns-clause-back g c =
    let opened = c.in-Err-Device-default.ensures in
    inr (g.D.Device.seen c.take_first.new.device, opened.found_err ∙ c.in-Ok.ensures.found, record { stranger = λ other. ap g.D.Device.seen (opened.stranger other).0; lines = opened.view })

pub returns-clause-unwritten : goal.returns-clause-unwritten
returns-clause-unwritten g c = λ is.
    let opened = c.in-Err-Device-default.ensures in
    let told : c.in-Err-Device-default.field-0-0 ≡ Device c.in-Err-Device-default.why = search rules in
    let failed = opened.failed (told ∙ ap Device (failed_write c.in-Err-Device-default.why (c.unwritten.ensures.write is) (λ shorter. opened.not_shorter (told ∙ ap Device shorter)))) in
    omega (arith, failed, c.in-Ok.ensures.sound)
