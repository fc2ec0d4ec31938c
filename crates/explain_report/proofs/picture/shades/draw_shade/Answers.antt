use Rattle.explain_report.specs.declared.picture.class.Class.TheVariants.{Held}
use Rattle.explain_report.specs.picture.Boxes.{IsRect}
use Rattle.explain_report.proofs.picture.BoxLemmas.{many-none, many-one}
use Rattle.explain_report.proofs.picture.shades.draw_shade.Goals as goal

pub returns-in_default : goal.returns-in_default
returns-in_default c = many-none (IsRect Held) _

pub returns : goal.returns
returns c = many-one (IsRect Held) _ _ c.in_ok-rect.ensures
