use Rattle.std.proofs.Common.{refl, sym, ◌∙◌, arith}
use Rattle.std.proofs.lemmas.Bool.{false≢true}
use Rattle.lock_waits.proofs.CycleLemmas.{different-push, different-not, different-all}
use Rattle.lock_waits.proofs.cycles.are_of_different_threads.Goals as goal

pub loop-at-preserved : goal.loop-at-preserved
loop-at-preserved c =
    different-push c.args.indexed.now.events c.args.events.now c.loop-at.at _ (omega (arith, c.loop-at-test.true, c.loop-at.auto.at-end)) refl c.loop-at.invariant
    (λ any. false≢true (sym c.if-has_event_of_thread.false ∙ c.has_event_of_thread.ensures.1 any))

pub returns-then-has_event_of_thread : goal.returns-then-has_event_of_thread
returns-then-has_event_of_thread c = (
  λ so. absurd (false≢true so),
  λ pairs.
      absurd
      (different-not c.args.indexed.now.events c.args.events.now c.loop-at.at _ (omega (arith, c.loop-at-test.true, c.loop-at.auto.at-end)) refl
      (c.has_event_of_thread.ensures.0 c.if-has_event_of_thread.true) pairs),
)

pub returns : goal.returns
returns c = (λ _. different-all c.args.indexed.now.events c.args.events.now c.loop-at.at (omega (arith, c.loop-at-test.false)) c.loop-at.invariant, λ _. refl)
