use Rattle.std.proofs.Common.{sym, arith}
use Rattle.race_groups.specs.Rows.{part}
use Rattle.race_groups.proofs.RowLemmas.{count_at-there, rises_at}
use Rattle.race_groups.proofs.EntryLemmas.{counts_at, entries_more, entry_between}
use Rattle.race_groups.proofs.workers.add_row.Goals as goal

pub add-requires-clause-more : goal.add-requires-clause-more
add-requires-clause-more c =
    counts_at c.args.part.now c.requires.part c.args.at c.in-Some.places.now c.in-Some.sums.now (sym c.in-Some.ensures.entry) c.in-Some.ensures.value

pub add-requires-clause-room : goal.add-requires-clause-room
add-requires-clause-room c = λ k p q le.
    let key = c.in-Some.places.now in
    let low = rises_at c.args.part.now c.requires.part c.args.at key c.in-Some.sums.now (sym c.in-Some.ensures.entry) in
    let there = count_at-there c.args.part.now k key.0 key.1 c.in-Some.sums.now c.in-Some.ensures.value in
    omega (arith, there, c.requires.room k p q le, c.requires.room k key.0 key.1 low)

pub returns-clause-added : goal.returns-clause-added
returns-clause-added c = λ k p q le.
    let key = c.in-Some.places.now in
    let sums = c.in-Some.sums.now in
    let entry = sym c.in-Some.ensures.entry in
    let low = rises_at c.args.part.now c.requires.part c.args.at key sums entry in
    omega (arith, c.in_ok-add.ensures.ok k p q le, entry_between p q key.0 key.1 (part k sums) le low, entries_more k c.args.part.now.entries c.args.at p q (key, sums) entry)
