use Rattle.race_parts.proofs.SortLemmas.{if_ok-map, shuffled}
use Rattle.race_parts.proofs.presorting.presorted_by.Goals as goal

pub returns : goal.returns
returns c =
    if_ok-map c.in_order.result
    (λ made is. shuffled c.args.cells.now made.items c.in_ok-keys.keys.items c.sort_keys.new.keys.items c.args.other (c.in_ok-keys.ensures c.args.other) c.sort_keys.ensures is)
    c.in_order.ensures
