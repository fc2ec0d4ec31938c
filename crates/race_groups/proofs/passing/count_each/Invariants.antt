use Rattle.std.proofs.Common.{◌≡◌, ℕ, ◌+◌, ◌==◌, ◌<◌, length, take, count_by, slice_index}
use Rattle.race_groups.proofs.passing.count_each.Given as goal

abbrev pub invariant-loop-class : goal.invariant-loop-class
invariant-loop-class l =
    (c : ℕ) → c < length l.counts → slice_index l.counts c ≡ slice_index l.fn.counts c + count_by (λ k. k == c) (take l.class-index l.classes)
