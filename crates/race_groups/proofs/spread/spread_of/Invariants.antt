use Rattle.std.proofs.Common.{◌≡◌, ℕ, ◌*◌, ◌<◌, All, length, sum_by}
use Rattle.event_index.specs.Lookups.{before, events_of}
use Rattle.race_groups.specs.Counting.{class_count}
use Rattle.race_groups.specs.Totals.{entries_at, weighed_sum}
use Rattle.race_groups.proofs.spread.spread_of.Given as goal

abbrev pub invariant-loop-thread : goal.invariant-loop-thread
invariant-loop-thread l =
    record {
      len : length l.spread.items ≡ length l.classes.infos.items;
      within : (c : ℕ) → All (λ e. e.0 < length l.indexed.threads) (entries_at l.spread.items c);
      weighed :
          (c : ℕ) (w : ℕ → ℕ) → weighed_sum w (entries_at l.spread.items c)
          ≡ sum_by (λ t. class_count l.classes.numbers.items c (events_of l.indexed.events t) * w t) (before l.thread);
    }
