use Rattle.std.proofs.Common.{◌-◌, arith}
use Rattle.variable_uses.proofs.ColumnLemmas.{count_none, count_set}
use Rattle.variable_uses.proofs.columns.count.Goals as goal

pub overflow_add-counts : goal.overflow_add-counts
overflow_add-counts c = let few = c.requires.room (c.args.number - 1) (omega (arith, c.requires.number, c.if-number-ne0.true)) in omega (arith, few)

pub returns-then-number-ne0-clause-counts : goal.returns-then-number-ne0-clause-counts
returns-then-number-ne0-clause-counts c = λ k lt. count_set c.args.counts.now c.args.number k (omega (arith, c.if-number-ne0.true)) c.requires.number

pub returns-else-number-ne0-clause-counts : goal.returns-else-number-ne0-clause-counts
returns-else-number-ne0-clause-counts c = λ k lt. count_none c.args.counts.now c.args.number k c.if-number-ne0.false
