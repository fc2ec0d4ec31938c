use Rattle.std.proofs.Common.{◌++◌, ◌∙◌, length, refl, sym, ap}
use Rattle.std.proofs.lemmas.Option.{slice_get_read}
use Rattle.variable_uses.specs.Columns.{entry, totals_of}
use Rattle.variable_uses.proofs.ColumnLemmas.{list_here, totals_more}
use Rattle.variable_uses.proofs.columns.totals_of.Goals as goal

pub loop-lock-preserved : goal.loop-lock-preserved
loop-lock-preserved c =
    let lists = c.args.lists.now in
    let v = c.index-lists-lock.result in
    let at = slice_get_read lists (length lists) c.loop-lock.lock v refl c.loop-lock-test.true c.index-lists-lock.is in
    c.in_ok-add_total.ensures ∙ ap (λ xs. xs ++ entry c.loop-lock.lock (length c.as_slice.result.now)) c.loop-lock.invariant
    ∙ ap (λ ys. totals_of c.args.lists.now c.loop-lock.lock ++ entry c.loop-lock.lock (length ys)) (c.as_slice.ensures.value ∙ sym (list_here lists c.loop-lock.lock v at)) ∙ sym (totals_more lists c.loop-lock.lock)
