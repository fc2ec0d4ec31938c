use Rattle.std.proofs.Common.{refl}
use Rattle.race_groups.proofs.least_pairs.SoughtLemmas.{all_forced}
use Rattle.race_groups.proofs.least_pairs.WindowLemmas.{no_clash}
use Rattle.race_groups.proofs.least_pairs.leasts.Search.below.Goals as goal

pub returns-then-are_forced-clause-taken : goal.returns-then-are_forced-clause-taken
returns-then-are_forced-clause-taken c =
    all_forced c.args.self.now c.requires.sound c.args.lane.now c.args.later
    (record {
      begun = c.requires.lane;
      one = c.requires.later;
      variable = c.requires.variable;
      some = c.are_clashing.ensures.some c.if-not-are_clashing.false;
      threads = c.are_clashing.ensures.threads c.if-not-are_clashing.false;
      writes = c.are_clashing.ensures.writes c.if-not-are_clashing.false;
    })
    c.args.leasts.now (c.are_forced.ensures c.if-are_forced.true)
