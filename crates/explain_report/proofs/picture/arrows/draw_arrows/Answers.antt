use Rattle.explain_report.specs.picture.Boxes.{IsArrow}
use Rattle.explain_report.proofs.picture.BoxLemmas.{many-more, many-none}
use Rattle.explain_report.proofs.picture.arrows.draw_arrows.Goals as goal

pub loop-from-init : goal.loop-from-init
loop-from-init c = many-none IsArrow _

pub loop-from-preserved : goal.loop-from-preserved
loop-from-preserved c = many-more IsArrow _ _ _ c.loop-from.invariant c.in_ok-draw_if.ensures

pub returns : goal.returns
returns c = c.loop-from.invariant
