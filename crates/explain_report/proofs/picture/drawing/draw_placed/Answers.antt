use Rattle.std.proofs.Common.{List, subst, take_all, arith}
use Rattle.std.proofs.lemmas.List.{take_more}
use Rattle.explain_report.specs.picture.Boxes.{Drawn, Each, IsRunBox}
use Rattle.explain_report.specs.picture.Placing.{box_of}
use Rattle.explain_report.specs.declared.picture.layout.Placed.{Placed}
use Rattle.explain_report.proofs.picture.BoxLemmas.{each-next, each-none}
use Rattle.explain_report.proofs.picture.drawing.draw_placed.Goals as goal

pub loop-one-init : goal.loop-one-init
loop-one-init c = each-none (λ (p : Placed). IsRunBox c.args.indexed.now c.args.events.now (box_of p)) c.args.canvas.now

pub loop-one-preserved : goal.loop-one-preserved
loop-one-preserved c =
    each-next (λ (p : Placed). IsRunBox c.args.indexed.now c.args.events.now (box_of p)) c.args.placed.now c.loop-one.one-index _ _ _ _ (take_more c.args.placed.now c.loop-one.one-index _ c.loop-one-test.true) c.loop-one.invariant
    c.in_ok-draw_run.ensures

pub returns : goal.returns
returns c =
    subst (λ (xs : List Placed). Drawn (Each (λ (p : Placed). IsRunBox c.args.indexed.now c.args.events.now (box_of p)) xs) c.args.canvas.now c.loop-one.canvas) (take_all c.loop-one.one-index c.args.placed.now (omega arith))
    c.loop-one.invariant
