use Rattle.std.proofs.Common.{◌≡◌, ◌↔◌, ◌<◌, ℕ, true, false, length}
use Rattle.std.specs.List.{slice_index_or}
use Rattle.variable_uses.specs.Shared.{IsShared}
use Rattle.variable_uses.proofs.choosing.shared_variables.Given as goal

abbrev pub invariant-loop-variable : goal.invariant-loop-variable
invariant-loop-variable l =
    record {
      len : length l.chosen.items ≡ l.variable;
      chosen : (x : ℕ) → x < l.variable → (slice_index_or l.chosen.items x false ≡ true) ↔ IsShared l.indexed.events l.ones l.others x;
    }
