use Rattle.explain_report.specs.declared.picture.class.Class.TheVariants.{Edge, Held}
use Rattle.explain_report.specs.picture.Boxes.{IsRect, Many}
use Rattle.explain_report.proofs.picture.BoxLemmas.{two}
use Rattle.explain_report.proofs.picture.shades.draw_bar.Goals as goal

pub returns : goal.returns
returns c = two (IsRect Edge) (Many (IsRect Held)) _ _ _ c.in_ok-rect.ensures c.in_ok-draw_shades.ensures
