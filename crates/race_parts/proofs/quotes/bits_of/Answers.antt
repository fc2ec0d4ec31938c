use Rattle.std.proofs.Common.{◌==◌, arith, w8}
use Rattle.std.proofs.lemmas.Simd.{bitmask_splat}
use Rattle.race_parts.proofs.quotes.bits_of.Goals as goal

pub returns : goal.returns
returns c = bitmask_splat w8 (λ x y. x == y) c.args.front 32 c.args.byte c.fits-front.0 (omega arith)
