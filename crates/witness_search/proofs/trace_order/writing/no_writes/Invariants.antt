use Rattle.std.proofs.Common.{ℕ, ◌≡◌, Vec, Global, [], Some, length}
use Rattle.std.specs.List.{slice_get}
use Rattle.witness_search.proofs.trace_order.writing.no_writes.Given as goal

abbrev pub invariant-loop-variable : goal.invariant-loop-variable
invariant-loop-variable l =
    record {
      len : length l.writes.items ≡ l._variable;
      empty : (k : ℕ) (v : Vec ℕ Global) → slice_get l.writes.items k ≡ Some v → v.items ≡ [];
    }
