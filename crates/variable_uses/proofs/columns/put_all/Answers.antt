use Rattle.std.proofs.Common.{◌∙◌, length, refl, sym}
use Rattle.std.proofs.lemmas.Option.{slice_get_read}
use Rattle.variable_uses.proofs.ColumnLemmas.{AreColumnsBefore-more, list_here}
use Rattle.variable_uses.proofs.columns.put_all.Goals as goal

pub loop-lock-preserved : goal.loop-lock-preserved
loop-lock-preserved c =
    let lists = c.args.lists.now in
    let v = c.index-lists-lock.result in
    let at = slice_get_read lists (length lists) c.loop-lock.lock v refl c.loop-lock-test.true c.index-lists-lock.is in
    record {
      len = c.put_lock.ensures.len ∙ c.loop-lock.invariant.len;
      counts_len = c.put_lock.ensures.lens ∙ c.loop-lock.invariant.counts_len;
      none = c.in_ok-put_lock.ensures.none;
      columns =
          AreColumnsBefore-more lists c.args.numbers.now c.as_slice.result.now c.loop-lock.lock c.loop-lock.columns.items c.put_lock.new.columns.items (list_here lists c.loop-lock.lock v at ∙ sym c.as_slice.ensures.value)
          c.loop-lock.invariant.columns c.in_ok-put_lock.ensures.put;
    }
