use Rattle.std.proofs.Common.{ℕ, slice_index, subst}
use Rattle.race_groups.specs.least_pairs.Pairs.{AreLeasts}
use Rattle.race_triage.proofs.found.leasts_in.Goals as goal

pub returns : goal.returns
returns c =
    record {
      len = c.in_ok-leasts.ensures.len;
      are = λ at row l here there.
          subst (λ (n : ℕ). AreLeasts c.args.tables.indexed.now (slice_index c.args.tables.places.now) row.places n l) c.most_of.ensures
          (c.in_ok-leasts.ensures.leasts at row l here there);
    }
