use Rattle.std.proofs.Common.{◌-◌, length, refl, arith}
use Rattle.std.proofs.lemmas.Option.{slice_get_read}
use Rattle.variable_uses.proofs.ColumnLemmas.{IsPutOne-empty, IsPutOne-none, IsPutOne-row, empty_counts, kept_counts, moved_counts}
use Rattle.variable_uses.proofs.columns.put.Goals as goal

pub returns-then-number-eq0-clause-counts : goal.returns-then-number-eq0-clause-counts
returns-then-number-eq0-clause-counts c = λ k lt. kept_counts c.args.counts.now c.args.number k c.if-number-eq0.true

pub returns-then-number-eq0-clause-put : goal.returns-then-number-eq0-clause-put
returns-then-number-eq0-clause-put c = IsPutOne-none c.args.number c.args.lock c.args.counts.now c.args.columns.now.items c.if-number-eq0.true

pub returns-then-count-eq0-clause-counts : goal.returns-then-count-eq0-clause-counts
returns-then-count-eq0-clause-counts c = λ k lt. empty_counts c.args.number c.args.lock c.args.counts.now c.args.columns.now.items (omega (arith, c.if-number-eq0.false)) c.if-count-eq0.true k

pub returns-then-count-eq0-clause-put : goal.returns-then-count-eq0-clause-put
returns-then-count-eq0-clause-put c = IsPutOne-empty c.args.number c.args.lock c.args.counts.now c.args.columns.now.items (omega (arith, c.if-number-eq0.false)) c.if-count-eq0.true

pub returns-clause-counts : goal.returns-clause-counts
returns-clause-counts c = moved_counts c.args.number c.args.lock c.args.counts.now c.args.columns.now.items (omega (arith, c.if-number-eq0.false)) c.requires.number (omega (arith, c.if-count-eq0.false))

pub returns-clause-put : goal.returns-clause-put
returns-clause-put c =
    let columns = c.args.columns.now.items in
    let u = c.index_mut.result.now in
    let was = slice_get_read columns (length columns) (c.args.number - 1) u refl (omega (arith, c.if-number-eq0.false, c.requires.number, c.requires.columns)) c.index_mut.ensures.value in
    IsPutOne-row c.args.number c.args.lock c.args.counts.now columns (omega (arith, c.if-number-eq0.false)) c.requires.number (omega (arith, c.if-count-eq0.false)) u c.push.new.self _ was c.in_ok-push.ensures.items refl
