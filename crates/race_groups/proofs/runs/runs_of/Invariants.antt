use Rattle.std.proofs.Common.{◌≡◌, ℕ, Some, Vec, length}
use Rattle.std.specs.declared.alloc.Global.{Global}
use Rattle.std.specs.List.{slice_get}
use Rattle.race_groups.specs.Owners.{AreRuns}
use Rattle.race_groups.proofs.runs.runs_of.Given as goal

abbrev pub invariant-loop-variable : goal.invariant-loop-variable
invariant-loop-variable l =
    record {
      len : length l.runs.items ≡ l.variable;
      each : (x : ℕ) (r : Vec ℕ Global) → slice_get l.runs.items x ≡ Some r → (v : Vec ℕ Global) → slice_get l.lists x ≡ Some v → AreRuns l.owners v.items r.items;
    }
