-- What is drawn so far is a part for each so far.
use Rattle.std.proofs.Common.{ℕ, take}
use Rattle.explain_report.specs.declared.picture.class.Class.TheVariants.{Event as EventLine}
use Rattle.explain_report.specs.picture.Boxes.{Drawn, Each, IsLine, held_words}
use Rattle.explain_report.proofs.picture.accesses.draw_named.Given as goal

abbrev pub invariant-loop-lock : goal.invariant-loop-lock
invariant-loop-lock l = Drawn (Each (λ (n : ℕ). IsLine EventLine (held_words l.indexed n)) (take l.lock-index l.locks)) l.fn.canvas l.canvas
