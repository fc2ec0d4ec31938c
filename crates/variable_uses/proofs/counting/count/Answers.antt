use Rattle.std.proofs.Common.{◌-◌, ◌≤◌, length, get_or, refl, arith}
use Rattle.std.proofs.lemmas.List.{length-set}
use Rattle.std.proofs.lemmas.List.Elements.{All-get_or}
use Rattle.variable_uses.specs.Numbers.{has_number}
use Rattle.variable_uses.proofs.NumberLemmas.{AreCountsBefore-none, AreCountsBefore-one, count_within}
use Rattle.variable_uses.proofs.counting.count.Goals as goal

pub overflow_add-counts : goal.overflow_add-counts
overflow_add-counts c =
    let le : get_or c.args.numbers.now c.args.event 0 ≤ length c.args.counts.now = All-get_or (λ m. m ≤ length c.args.counts.now) c.args.numbers.now c.args.event 0 c.requires.event c.requires.numbers in
    let is = c.requires.counts (get_or c.args.numbers.now c.args.event 0 - 1) (omega (arith, le, c.if-number-ne0.true)) in
    let few = count_within (has_number c.args.numbers.now (get_or c.args.numbers.now c.args.event 0 - 1)) c.args.event in
    omega (arith, is, few, c.requires.few, c.requires.event)

pub returns-then-number-ne0-clause-counts : goal.returns-then-number-ne0-clause-counts
returns-then-number-ne0-clause-counts c =
    let le : get_or c.args.numbers.now c.args.event 0 ≤ length c.args.counts.now = All-get_or (λ m. m ≤ length c.args.counts.now) c.args.numbers.now c.args.event 0 c.requires.event c.requires.numbers in
    AreCountsBefore-one c.args.numbers.now c.args.event (get_or c.args.numbers.now c.args.event 0 - 1) c.args.counts.now _ (omega (arith, c.if-number-ne0.true)) (omega (arith, le, c.if-number-ne0.true)) refl
    (length-set c.args.counts.now (get_or c.args.numbers.now c.args.event 0 - 1) _) c.requires.counts

pub returns-else-number-ne0-clause-counts : goal.returns-else-number-ne0-clause-counts
returns-else-number-ne0-clause-counts c = AreCountsBefore-none c.args.numbers.now c.args.event c.args.counts.now (omega (arith, c.if-number-ne0.false)) c.requires.counts
