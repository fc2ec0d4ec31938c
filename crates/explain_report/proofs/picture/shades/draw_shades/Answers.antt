use Rattle.explain_report.specs.declared.picture.class.Class.TheVariants.{Held}
use Rattle.explain_report.specs.picture.Boxes.{IsRect}
use Rattle.explain_report.proofs.picture.BoxLemmas.{many-more, many-none}
use Rattle.explain_report.proofs.picture.shades.draw_shades.Goals as goal

pub loop-holds-init : goal.loop-holds-init
loop-holds-init c = many-none (IsRect Held) _

pub loop-holds-preserved : goal.loop-holds-preserved
loop-holds-preserved c = many-more (IsRect Held) _ _ _ c.loop-holds.invariant c.in_ok-draw_shade.ensures

pub returns : goal.returns
returns c = many-more (IsRect Held) _ _ _ c.loop-holds.invariant c.in_ok-draw_shade-2.ensures
