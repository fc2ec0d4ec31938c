use Rattle.std.proofs.Common.{arith}
use Rattle.explain_report.specs.picture.Boxes.{IsCut}
use Rattle.explain_report.proofs.picture.pieces.append_cut.Goals as goal

pub returns-in_ok-append_words : goal.returns-in_ok-append_words
returns-in_ok-append_words c = (c.args.text.now, c.in_ok-append_words.ensures, IsCut.whole (omega (arith, c.if-count-le-MOST_BYTES.true)))
