use Rattle.std.proofs.Common.{refl, le_refl}
use Rattle.std.proofs.lemmas.Bool.{false≢true}
use Rattle.lock_waits.proofs.waiting.is_held.Goals as goal

pub returns-in-None : goal.returns-in-None
returns-in-None c = (λ so. absurd (false≢true so), λ held. absurd (c.in-None.ensures.none refl held))

pub returns-in-Some : goal.returns-in-Some
returns-in-Some c = (
  λ _.
      let since = c.in-Some.ensures.since in
      (since.thread, since.of, since.held c.args.event since.earlier (le_refl c.args.event)),
  λ _. refl,
)
