use Rattle.std.proofs.Common.{◌≡◌, ◌-◌, Some}
use Rattle.std.specs.List.{slice_get}
use Rattle.must_order.specs.Joins.{AreTold}
use Rattle.must_order.specs.declared.chains.Chain.{Chain}
use Rattle.must_order.proofs.reasons.add_marked.Given as goal

abbrev pub invariant-loop-done : goal.invariant-loop-done
invariant-loop-done l =
    record {
      told : AreTold l.indexed.events l.joins.list.items l.needed.items (l.limit - l.done) l.chains.items;
      first : (c : Chain) × (slice_get l.chains.items 0 ≡ Some c) × (c.first ≡ l.first) × (c.last ≡ l.last);
    }
