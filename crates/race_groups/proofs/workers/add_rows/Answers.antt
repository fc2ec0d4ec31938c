use Rattle.std.proofs.Common.{ℕ, ◌+◌, List, ap, arith}
use Rattle.std.proofs.lemmas.List.{take_all}
use Rattle.std.proofs.lemmas.List.Sums.{sum_by-take-le}
use Rattle.race_groups.specs.Rows.{entry_count, entries_count}
use Rattle.race_groups.specs.declared.rows.Sums.{Sums}
use Rattle.race_groups.proofs.EntryLemmas.{count_at-entries}
use Rattle.race_groups.proofs.workers.add_rows.Goals as goal

pub add_row-requires-clause-room : goal.add_row-requires-clause-room
add_row-requires-clause-room c = λ k p q le.
    let part = c.args.part.now in
    let some = sum_by-take-le (entry_count k p q) part.entries c.loop-at.at in
    let all = count_at-entries part c.len-rows.ensures.unique k p q in
    omega (arith, some, all, c.requires.room k p q le, c.loop-at.invariant.counts k p q le)

pub loop-at-preserved : goal.loop-at-preserved
loop-at-preserved c = record {
  rows = c.in_ok-add_row.ensures.all;
  kept = omega (arith, c.if-len-limit.false, c.len.ensures.len);
  counts = λ k p q le. omega (arith, c.in_ok-add_row.ensures.added k p q le, c.loop-at.invariant.counts k p q le);
}

pub returns-then-len-limit-clause-too_many : goal.returns-then-len-limit-clause-too_many
returns-then-len-limit-clause-too_many c = λ refused. (
  record { are = c.in_ok-add_row.ensures.all; more = omega (arith, c.if-len-limit.true, c.len.ensures.len); once = c.len.ensures.unique },
  λ k p q le.
      let part = c.args.part.now in
      let some = sum_by-take-le (entry_count k p q) part.entries (c.loop-at.at + 1) in
      let all = count_at-entries part c.len-rows.ensures.unique k p q in
      omega (arith, some, all, c.in_ok-add_row.ensures.added k p q le, c.loop-at.invariant.counts k p q le),
)

pub returns-clause-added : goal.returns-clause-added
returns-clause-added c = λ k p q le.
    let part = c.args.part.now in
    let whole = take_all c.loop-at.at part.entries (omega (arith, c.loop-at-test.false, c.len-rows.ensures.len)) in
    let all = count_at-entries part c.len-rows.ensures.unique k p q in
    omega (arith, ap (λ (es : List ((ℕ × ℕ) × Sums)). entries_count k es p q) whole, all, c.loop-at.invariant.counts k p q le)
