use Rattle.std.proofs.Common.{arith}
use Rattle.rapid_text.proofs.Marked.{marked-front}
use Rattle.rapid_text.proofs.marks.Marks.of.Goals as goal

pub returns : goal.returns
returns c =
    marked-front c.args.text.now c.bits_of.result c.bits_of-2.result c.bits_of-3.result c.blanks_of.result (omega (arith, c.if-text-lt32.false)) c.bits_of.ensures c.bits_of-2.ensures c.bits_of-3.ensures c.blanks_of.ensures

pub returns-then-text-lt32 : goal.returns-then-text-lt32
returns-then-text-lt32 c = c.none.ensures c.args.text.now
