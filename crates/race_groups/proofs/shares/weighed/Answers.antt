use Rattle.std.proofs.Common.{◌*◌, ℕ, slice_index, slice_index_or, ap, arith}
use Rattle.std.proofs.lemmas.List.Sums.{sum_by_more_le}
use Rattle.race_groups.proofs.shares.weighed.Goals as goal

pub overflow_add-sum : goal.overflow_add-sum
overflow_add-sum c =
    let weights = c.args.weights.now in
    let entry : ℕ × ℕ = slice_index_or c.args.entries.now c.loop-entry.entry-index (0, 0) in
    let f : ℕ × ℕ → ℕ = λ e. e.1 * slice_index weights e.0 in
    let more = sum_by_more_le f c.args.entries.now c.loop-entry.entry-index (0, 0) c.loop-entry-test.true in
    let same = ap (λ n. n * slice_index weights entry.0) c.from.ensures in
    record { fits = omega (arith, more, same, c.loop-entry.invariant, c.requires.fits) }
