use Rattle.race_groups.proofs.least_pairs.BetweenLemmas.{HoldsBetween-from}
use Rattle.race_groups.proofs.least_pairs.firsts.least_of.Goals as goal

pub returns-clause-holds : goal.returns-clause-holds
returns-clause-holds c =
    let both = c.pair_of-both in
    let one = c.pair_of in
    let two = c.pair_of-2 in
    HoldsBetween-from c.args.one c.args.other both.result one.result two.result c.lesser-later.result c.lesser.result
    both.ensures.some both.ensures.none one.ensures.some one.ensures.none two.ensures.some two.ensures.none
    c.lesser-later.ensures.one c.lesser-later.ensures.other c.lesser.ensures.one c.lesser.ensures.other
