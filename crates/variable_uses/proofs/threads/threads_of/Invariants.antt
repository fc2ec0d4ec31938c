use Rattle.std.proofs.Common.{◌≡◌, [], length}
use Rattle.variable_uses.specs.Seen.{AreSeen}
use Rattle.variable_uses.proofs.threads.threads_of.Given as goal

abbrev pub invariant-loop-thread : goal.invariant-loop-thread
invariant-loop-thread l =
    record {
      counts_len : length l.counts.items ≡ l.rows;
      lasts_len : length l.lasts.items ≡ l.rows;
      seen : AreSeen l.indexed.events l.numbers l.thread [] l.counts.items l.lasts.items;
    }
