use Rattle.std.proofs.Common.{◌≡◌, ℕ, ◌<◌, length, slice_index}
use Rattle.race_groups.specs.Totals.{total_count}
use Rattle.race_groups.proofs.totals.totals_of.Given as goal

abbrev pub invariant-loop-thread : goal.invariant-loop-thread
invariant-loop-thread l =
    record {
      len : length l.totals ≡ length l.classes.infos.items;
      counted : (c : ℕ) → c < length l.totals → slice_index l.totals c ≡ total_count l.indexed.events l.thread l.classes.numbers.items c;
    }
