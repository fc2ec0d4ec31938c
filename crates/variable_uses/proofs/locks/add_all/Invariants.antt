use Rattle.std.proofs.Common.{◌≡◌, ◌≤◌, length, nat_lt, slice_index}
use Rattle.variable_uses.specs.Held.{AreHeld, AreUsesBefore}
use Rattle.variable_uses.specs.Table.{holds_in}
use Rattle.variable_uses.proofs.locks.add_all.Given as goal

abbrev pub invariant-loop-event : goal.invariant-loop-event
invariant-loop-event l =
    record {
      len : length l.lists.items ≡ length l.indexed.locks;
      threads : length l.held.items ≡ length l.indexed.threads;
      uses : AreUsesBefore l.indexed.events l.numbers l.event l.lists.items;
      total : l.holds ≡ holds_in l.indexed (λ e. nat_lt 0 (slice_index l.numbers e)) l.event;
      few : l.holds ≤ 16777216;
      held : AreHeld l.indexed.events l.event l.held.items;
    }
