use Rattle.std.proofs.Common.{◌≡◌, ◌≤◌, All, length, map}
use Rattle.event_index.specs.Lookups.{before}
use Rattle.variable_uses.specs.Rows.{key_at}
use Rattle.variable_uses.proofs.keys.keys_of.Given as goal

abbrev pub invariant-loop-event : goal.invariant-loop-event
invariant-loop-event l =
    record {
      keys : l.keys.items ≡ map (key_at l.indexed.events l.places l.chosen) (before l.event);
      len : length l.keys.items ≡ l.event;
      most : All (λ k. k ≤ 2097152) l.keys.items;
    }
