use Rattle.std.proofs.Common.{ℕ, subst, le_refl}
use Rattle.std.proofs.lemmas.Bool.{false≢true}
use Rattle.must_order.specs.MustBefore.{IsHeldBefore}
use Rattle.must_order.proofs.OwedLemmas.{acquired_lock}
use Rattle.deadlock_triage.proofs.requests.may_wait.Goals as goal

pub returns-in-Some : goal.returns-in-Some
returns-in-Some c = (
  λ so. absurd (false≢true so),
  λ q.
      let T = c.args.analysis.now.events in
      let e = c.args.event in
      let h = c.in-Some.ensures.since in
      absurd (q.fresh (subst (IsHeldBefore T e) (acquired_lock T e c.args.lock q.lock c.requires.acquires q.acquires) (h.thread, h.of, h.held e h.earlier (le_refl e)))),
)
