-- What is drawn so far is a part for each so far.
use Rattle.std.proofs.Common.{ℕ, take}
use Rattle.rapid_text.specs.Canonical.{name_at}
use Rattle.explain_report.specs.declared.picture.class.Class.TheVariants.{Name}
use Rattle.explain_report.specs.picture.Boxes.{Drawn, Each, IsLine}
use Rattle.explain_report.proofs.picture.drawing.draw_own.Given as goal

abbrev pub invariant-loop-thread : goal.invariant-loop-thread
invariant-loop-thread l = Drawn (Each (λ (n : ℕ). IsLine Name (name_at l.indexed.threads n)) (take l.thread-index l.threads)) l.fn.canvas l.canvas
