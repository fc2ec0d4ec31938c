use Rattle.std.proofs.Common.{nat_le, arith, w8}
use Rattle.std.proofs.lemmas.Simd.{bitmask_splat}
use Rattle.race_parts.proofs.quotes.controls_of.Goals as goal

pub returns : goal.returns
returns c = bitmask_splat w8 nat_le c.args.front 32 31 c.fits-front.0 (omega arith)
