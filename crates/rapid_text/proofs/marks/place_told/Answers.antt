use Rattle.std.proofs.Common.{◌==◌, arith, w64}
use Rattle.std.proofs.lemmas.Nat.Bits.{bit_at-trailing_zeros}
use Rattle.rapid_text.proofs.Marked.{bits-first}
use Rattle.rapid_text.proofs.marks.place_told.Goals as goal

pub returns-then-at-bytes : goal.returns-then-at-bytes
returns-then-at-bytes c =
    let low = bit_at-trailing_zeros w64 c.args.bits (omega (arith, c.if-bits-eq0.false)) c.ranges.bits.fits in
    bits-first (λ x. x == c.args.byte) c.args.bits c.args.bytes.now _ c.requires (omega (arith, c.if-at-bytes.true)) low.1 low.2
