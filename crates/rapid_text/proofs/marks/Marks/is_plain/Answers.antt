use Rattle.std.proofs.Common.{◌≡◌, subst, arith, w64}
use Rattle.std.specs.Int.{bit_at}
use Rattle.std.proofs.lemmas.Bool.{leb-true}
use Rattle.std.proofs.lemmas.Nat.Bits.{bit_at-trailing_zeros}
use Rattle.rapid_text.proofs.Marked.{clear-below, plain-front}
use Rattle.rapid_text.proofs.marks.Marks.is_plain.Goals as goal

pub returns : goal.returns
returns c known xs marked =
    let m = c.args.self in
    let low = bit_at-trailing_zeros w64 m.feeds (omega (arith, c.if-self-eq0.false)) (omega arith) in
    plain-front m c.args.feed (subst (λ k. bit_at m.feeds k ≡ 1) (omega (arith, c.if-first-feed.false)) low.1) (λ j lt. clear-below m.blanks j (omega arith) (omega (arith, leb-true _ _ known))) xs marked
