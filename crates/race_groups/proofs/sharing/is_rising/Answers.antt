use Rattle.std.proofs.Common.{◌<◌, ◌+◌, ℕ, Bool, get_or, length, subst}
use Rattle.std.proofs.lemmas.List.Sorted.{non_decreasing_from_is_sorted}
use Rattle.std.specs.List.Sorted.{IsNonDecreasing}
use Rattle.std.specs.Bool.{MatchBool}
use Rattle.race_groups.proofs.sharing.is_rising.Goals as goal

pub returns : goal.returns
returns c is =
    subst (λ (b : Bool). MatchBool b (IsNonDecreasing c.args.list.now) ((k : ℕ) × (k + 1 < length c.args.list.now) × ((d : ℕ) → get_or c.args.list.now (k + 1) d < get_or c.args.list.now k d))) is
    (non_decreasing_from_is_sorted c.args.list.now c.is_sorted.result c.is_sorted.ensures.cases)
