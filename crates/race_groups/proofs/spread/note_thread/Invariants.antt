use Rattle.std.proofs.Common.{◌≡◌, ℕ, ◌+◌, ◌*◌, ◌<◌, All, length, take}
use Rattle.event_index.specs.Lookups.{events_of}
use Rattle.race_groups.specs.Counting.{class_count}
use Rattle.race_groups.specs.Totals.{entries_at, weighed_sum}
use Rattle.race_groups.proofs.spread.note_thread.Given as goal

abbrev pub invariant-loop-at : goal.invariant-loop-at
invariant-loop-at l =
    record {
      len : length l.spread.items ≡ length l.fn.spread.items;
      within : (c : ℕ) → All (λ e. e.0 < length l.indexed.threads) (entries_at l.spread.items c);
      noted :
          (c : ℕ) (w : ℕ → ℕ) → weighed_sum w (entries_at l.spread.items c)
          ≡ weighed_sum w (entries_at l.fn.spread.items c) + class_count l.numbers c (take l.at (events_of l.indexed.events l.thread)) * w l.thread;
    }
