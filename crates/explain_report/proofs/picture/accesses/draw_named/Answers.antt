use Rattle.std.proofs.Common.{ℕ, List, subst, take_all, arith}
use Rattle.std.proofs.lemmas.List.{take_more}
use Rattle.explain_report.specs.declared.picture.class.Class.TheVariants.{Event as EventLine}
use Rattle.explain_report.specs.picture.Boxes.{Drawn, Each, IsLine, held_words}
use Rattle.explain_report.proofs.picture.BoxLemmas.{each-next, each-none}
use Rattle.explain_report.proofs.picture.accesses.draw_named.Goals as goal

pub loop-lock-init : goal.loop-lock-init
loop-lock-init c = each-none (λ (n : ℕ). IsLine EventLine (held_words c.args.indexed.now n)) c.args.canvas.now

pub loop-lock-preserved : goal.loop-lock-preserved
loop-lock-preserved c =
    each-next (λ (n : ℕ). IsLine EventLine (held_words c.args.indexed.now n)) c.args.locks.now c.loop-lock.lock-index _ _ _ _ (take_more c.args.locks.now c.loop-lock.lock-index _ c.loop-lock-test.true) c.loop-lock.invariant
    c.in_ok-draw_held.ensures

pub returns : goal.returns
returns c =
    subst (λ (xs : List ℕ). Drawn (Each (λ (n : ℕ). IsLine EventLine (held_words c.args.indexed.now n)) xs) c.args.canvas.now c.loop-lock.canvas) (take_all c.loop-lock.lock-index c.args.locks.now (omega arith))
    c.loop-lock.invariant
