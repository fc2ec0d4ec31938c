use Rattle.std.proofs.Common.{inr, arith, rules}
use Rattle.window.proofs.FrontLemmas.{size_told}
use Rattle.window.proofs.front.Front.told_size.Goals as goal

pub returns : goal.returns
returns c =
    let head = c.args.head.now.text.items in
    let piece = c.requires.is.1 in
    inr (inr (inr (
      head,
      c.requires.is,
      inr (size_told head c.args.more.now c.args.refusal c.requires.stands.ends c.requires.kept (piece.0, piece.1) c.requires.fault (omega (arith, c.if-refusal-eq0.false)) (search rules)),
    )))
