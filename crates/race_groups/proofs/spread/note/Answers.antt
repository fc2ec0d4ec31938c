use Rattle.std.proofs.Common.{◌≡◌, ◌-◌, Some, length, slice_get, sym, ap, ◌∙◌, arith}
use Rattle.race_groups.proofs.SpreadLemmas.{entry_le, weighed_set}
use Rattle.race_groups.proofs.spread.note.Goals as goal

pub overflow_add-count : goal.overflow_add-count
overflow_add-count c =
    let items = c.args.entries.now.items in
    let at : slice_get items (length items - 1) ≡ Some (c.args.thread, c.in-Some.count) = ap (λ xs. slice_get xs (length xs - 1)) (sym c.as_slice.ensures.value) ∙ c.in-Some.ensures.1 in
    let le = entry_le items (length items - 1) c.args.thread c.in-Some.count at in
    record { fits = omega (arith, le, c.requires.room) }

pub returns-in-Some-clause-noted : goal.returns-in-Some-clause-noted
returns-in-Some-clause-noted c = λ w.
    let items = c.args.entries.now.items in
    let at : slice_get items (c.len-last.result - 1) ≡ Some (c.args.thread, c.in-Some.count) =
    ap (λ n. slice_get items (n - 1)) (c.len-last.ensures ∙ sym c.as_slice.ensures.len ∙ ap length c.as_slice.ensures.value) ∙ ap (λ xs. slice_get xs (length xs - 1)) (sym c.as_slice.ensures.value) ∙ c.in-Some.ensures.1
    in weighed_set items (c.len-last.result - 1) c.args.thread c.in-Some.count at w
