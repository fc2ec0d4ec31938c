use Rattle.std.proofs.Common.{◌≡◌, ℕ, ◌<◌, ◌≤◌, get_or}
use Rattle.std.specs.List.{slice_get}
use Rattle.std.specs.Option.{IfSome}
use Rattle.must_order.specs.MustBefore.{IsMustBefore}
use Rattle.must_order.proofs.reasons.join_back.Given as goal

abbrev pub invariant-loop-at : goal.invariant-loop-at
invariant-loop-at l =
    (k : ℕ) → get_or l.joins.starts.items l.event 0 ≤ k → k < l.at
    → ¬ IfSome (slice_get l.joins.list.items k) (λ j. (j.event ≡ l.event) × IsMustBefore l.indexed.events l.first j.release)
