use Rattle.std.proofs.Common.{refl}
use Rattle.std.proofs.lemmas.Bool.{false≢true}
use Rattle.lock_waits.proofs.GatherLemmas.{fails, IsForeign-held, held-foreign, foreign-apart, held_seen, not_held_seen}
use Rattle.lock_waits.proofs.requiring.is_foreign_to.Goals as goal

pub returns-then-are_of_one_thread : goal.returns-then-are_of_one_thread
returns-then-are_of_one_thread c = (
  λ so. absurd (false≢true so),
  λ f. absurd (foreign-apart c.args.indexed.now.events c.args.request c.args.event f (c.are_of_one_thread.ensures.0 c.if-are_of_one_thread.true)),
)

pub returns-in-None : goal.returns-in-None
returns-in-None c = (
  λ so. absurd (false≢true so),
  λ f.
      absurd
      (not_held_seen c.args.must.now c.args.indexed.now c.requires.must c.args.request c.args.lock (c.in-None.ensures.none refl)
      (held-foreign c.args.indexed.now.events c.args.request c.args.event c.args.lock c.requires.acquires f)),
)

pub returns-in-Some : goal.returns-in-Some
returns-in-Some c = (
  λ _.
      IsForeign-held c.args.indexed.now.events c.args.request c.args.event c.args.lock c.requires.acquires c.requires.event (fails _ _ c.are_of_one_thread.ensures c.if-are_of_one_thread.false)
      (held_seen c.args.must.now c.args.indexed.now c.requires.must c.args.request c.args.lock _ c.in-Some.ensures.since),
  λ _. refl,
)
