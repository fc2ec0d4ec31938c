use Rattle.std.proofs.Common.{◌≡◌, length, take}
use Rattle.variable_uses.specs.Seen.{AreSeen}
use Rattle.variable_uses.proofs.threads.see_all.Given as goal

abbrev pub invariant-loop-event : goal.invariant-loop-event
invariant-loop-event l =
    record {
      same_len : length l.counts.items ≡ length l.fn.counts.items;
      lasts_len : length l.lasts.items ≡ length l.counts.items;
      seen : AreSeen l.indexed.events l.numbers l.thread (take l.event-index l.events) l.counts.items l.lasts.items;
    }
