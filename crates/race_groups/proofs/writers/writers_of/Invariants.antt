use Rattle.std.proofs.Common.{◌≡◌, ℕ, Some, Vec, length}
use Rattle.std.specs.declared.alloc.Global.{Global}
use Rattle.std.specs.List.{slice_get}
use Rattle.race_groups.specs.Classes.{writers_of}
use Rattle.race_groups.proofs.writers.writers_of.Given as goal

abbrev pub invariant-loop-variable : goal.invariant-loop-variable
invariant-loop-variable l =
    record {
      len : length l.writers.items ≡ l.variable;
      lists : (x : ℕ) (v : Vec ℕ Global) → slice_get l.writers.items x ≡ Some v → v.items ≡ writers_of l.infos x;
    }
