use Rattle.std.proofs.Common.{◌+◌, ◌*◌, ◌==◌, ◌<◌, ℕ, cond, length, length-set, slice_index, slice_index_or, ap, ◌∙◌, arith}
use Rattle.std.proofs.lemmas.List.Elements.{All-get_or}
use Rattle.std.proofs.lemmas.List.Sums.{sum_by_more, sum_by_more_le}
use Rattle.race_groups.proofs.SpreadLemmas.{one_thread_le, weight_here, weights_more}
use Rattle.race_groups.proofs.totals.weights_of.Goals as goal

pub overflow_add-weights : goal.overflow_add-weights
overflow_add-weights c =
    let entries = c.args.entries.now in
    let i = c.loop-entry.entry-index in
    let entry : ℕ × ℕ = slice_index_or entries i (0, 0) in
    let t = entry.0 in
    let low : t < c.args.threads = All-get_or (λ (e : ℕ × ℕ). e.0 < c.args.threads) entries i (0, 0) c.loop-entry-test.true c.requires.within in
    let f : ℕ × ℕ → ℕ = λ e. e.1 * cond (t == e.0) 1 0 in
    let more = sum_by_more_le f entries i (0, 0) c.loop-entry-test.true in
    let here = weight_here t entry.1 in
    let whole = one_thread_le t entries in
    record { fits = omega (arith, more, here, whole, c.from.ensures, c.loop-entry.invariant.counted t low, c.requires.few) }

pub loop-entry-preserved : goal.loop-entry-preserved
loop-entry-preserved c =
    let entries = c.args.entries.now in
    let weights = c.loop-entry.weights in
    let i = c.loop-entry.entry-index in
    let entry : ℕ × ℕ = slice_index_or entries i (0, 0) in
    let low : entry.0 < length weights =
    omega (arith, All-get_or (λ (e : ℕ × ℕ). e.0 < c.args.threads) entries i (0, 0) c.loop-entry-test.true c.requires.within, c.loop-entry.invariant.len)
    in
    record {
      len = length-set weights entry.0 (slice_index weights entry.0 + c.from.result) ∙ c.loop-entry.invariant.len;
      counted = λ t lt.
          let f : ℕ × ℕ → ℕ = λ e. e.1 * cond (t == e.0) 1 0 in
          let more = sum_by_more f entries i (0, 0) c.loop-entry-test.true in
          let now = weights_more weights entry.0 t c.from.result low in
          let same = ap (λ n. n * cond (t == entry.0) 1 0) c.from.ensures in
          omega (arith, more, now, same, c.loop-entry.invariant.counted t lt);
    }
