use Rattle.explain_report.specs.picture.Boxes.{IsArrow}
use Rattle.explain_report.proofs.picture.BoxLemmas.{many-none, many-one}
use Rattle.explain_report.proofs.picture.arrows.draw_if.Goals as goal

pub returns-in_ok-draw_arrow : goal.returns-in_ok-draw_arrow
returns-in_ok-draw_arrow c = many-one IsArrow _ _ c.in_ok-draw_arrow.ensures

pub returns-in_default : goal.returns-in_default
returns-in_default c = many-none IsArrow _
