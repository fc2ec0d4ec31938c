use Rattle.std.proofs.Common.{◌++◌, take}
use Rattle.explain_report.specs.picture.Boxes.{IsCut, ellipsis}
use Rattle.explain_report.proofs.picture.PieceLemmas.{two_pieces}
use Rattle.explain_report.proofs.picture.pieces.append_begun.Goals as goal

pub returns : goal.returns
returns c =
    let n = c.cut_at-count.result in (
      take n c.args.text.now ++ ellipsis,
      two_pieces _ _ _ _ _ (simp c.begin_of.ensures at c.in_ok-append_words.ensures) c.in_ok-append_words-2.ensures,
      IsCut.begun n c.requires c.cut_at-count.ensures.least c.cut_at-count.ensures.most,
    )
