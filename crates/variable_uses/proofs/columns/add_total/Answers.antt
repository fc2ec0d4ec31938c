use Rattle.std.proofs.Common.{◌++◌, ◌∙◌, length, sym, ap, append-nil, arith}
use Rattle.variable_uses.specs.Columns.{entry}
use Rattle.variable_uses.proofs.ColumnLemmas.{entry_some}
use Rattle.variable_uses.proofs.columns.add_total.Goals as goal

pub returns-then-count-eq0 : goal.returns-then-count-eq0
returns-then-count-eq0 c = sym (ap (λ n. c.args.totals.now.items ++ entry c.args.lock n) c.if-count-eq0.true ∙ append-nil c.args.totals.now.items)

pub returns : goal.returns
returns c = c.in_ok-push.ensures.items ∙ ap (λ xs. c.args.totals.now.items ++ xs) (sym (entry_some c.args.lock (length c.args.list.now) (omega (arith, c.if-count-eq0.false))))
