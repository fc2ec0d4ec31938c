use Rattle.std.proofs.Common.{ℕ, List, subst, take_all, arith}
use Rattle.std.proofs.lemmas.List.{take_more}
use Rattle.rapid_text.specs.Canonical.{name_at}
use Rattle.explain_report.specs.declared.picture.class.Class.TheVariants.{Name}
use Rattle.explain_report.specs.picture.Boxes.{Drawn, Each, IsLine}
use Rattle.explain_report.proofs.picture.BoxLemmas.{each-next, each-none}
use Rattle.explain_report.proofs.picture.drawing.draw_own.Goals as goal

pub loop-thread-init : goal.loop-thread-init
loop-thread-init c = each-none (λ (n : ℕ). IsLine Name (name_at c.args.indexed.now.threads n)) c.args.canvas.now

pub loop-thread-preserved : goal.loop-thread-preserved
loop-thread-preserved c =
    each-next (λ (n : ℕ). IsLine Name (name_at c.args.indexed.now.threads n)) c.args.threads.now c.loop-thread.thread-index _ _ _ _ (take_more c.args.threads.now c.loop-thread.thread-index _ c.loop-thread-test.true) c.loop-thread.invariant
    (simp c.thread_name-name.ensures at c.in_ok-draw_line.ensures)

pub returns : goal.returns
returns c =
    subst (λ (xs : List ℕ). Drawn (Each (λ (n : ℕ). IsLine Name (name_at c.args.indexed.now.threads n)) xs) c.args.canvas.now c.loop-thread.canvas) (take_all c.loop-thread.thread-index c.args.threads.now (omega arith))
    c.loop-thread.invariant
