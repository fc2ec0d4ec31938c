use Rattle.std.proofs.Common.{slice_index, arith}
use Rattle.race_groups.specs.least_pairs.Going.{IsOwn}
use Rattle.race_groups.proofs.least_pairs.NotingLemmas.{AreSoFar-start}
use Rattle.race_groups.proofs.least_pairs.leasts.Search.nothing.Goals as goal

pub returns : goal.returns
returns c =
    let s = c.args.self.now in
    record {
      found =
          AreSoFar-start s.indexed.now (slice_index s.places.now) s.groups.now.rows.items s.most (IsOwn s) c.loop-row.leasts.items
          (omega (arith, c.loop-row.invariant.0, c.loop-row-test.false))
          c.loop-row.invariant.1;
      len = omega (arith, c.loop-row.invariant.0, c.loop-row-test.false);
      nothing = c.loop-row.invariant.1;
    }
