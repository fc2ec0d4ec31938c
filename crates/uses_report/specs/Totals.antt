-- The counts of a table. All notions here are this project's own.
use Rattle.std.specs.Prelude.{ℕ, Bool, List, count_by}
use Rattle.std.specs.List.{sum_by}
use Rattle.race_triage.specs.Pieces.{capped}
use Rattle.variable_uses.specs.declared.uses.Uses.{Uses}

-- how many flags are set
abbrev pub flags_set : List Bool → ℕ
flags_set flags = capped (count_by (λ f. f) flags)

-- how many accesses the rows have together
abbrev pub accesses_in : Uses → ℕ
accesses_in uses = capped (sum_by (λ c. c) uses.counts.items)
