use Rattle.std.proofs.Common.{arith}
use Rattle.race_parts.proofs.QuoteLemmas.{plain_lane}
use Rattle.race_parts.proofs.quotes.plain_in.Goals as goal

pub returns-clause-plain : goal.returns-clause-plain
returns-clause-plain c k lt =
    plain_lane c.args.text.now c.bits_of.result c.bits_of-2.result c.controls_of.result k c.requires
    (omega (arith, lt, c.least-3.ensures.other, c.least-2.ensures.other))
    c.bits_of.ensures c.bits_of-2.ensures c.controls_of.ensures
    (c.clear_count-quotes.ensures k (omega (arith, lt, c.least-3.ensures.one, c.least.ensures.one)))
    (c.clear_count-slashes.ensures k (omega (arith, lt, c.least-3.ensures.one, c.least.ensures.other)))
    (c.clear_count-controls.ensures k (omega (arith, lt, c.least-3.ensures.other, c.least-2.ensures.one)))
