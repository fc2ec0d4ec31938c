use Rattle.std.proofs.Common.{arith}
use Rattle.event_index.proofs.RowLemmas.{spot, within_row, IsFilled-more}
use Rattle.event_index.proofs.grouping.put.Goals as goal

pub overflow_add-start : goal.overflow_add-start
overflow_add-start c =
    let at = spot c.args.raw.now.events _ c.args.event c.event.result c.args.starts.now c.args.places.now c.event.ensures.found c.event.ensures.named.0 c.requires.starts c.requires.places in
    let inside = within_row c.args.raw.now.events c.args.event c.event.result c.event.ensures.found in
    let limit = c.requires.well_formed.events in
    omega arith

pub index_mut-requires : goal.index_mut-requires
index_mut-requires c =
    let at = spot c.args.raw.now.events _ c.args.event c.event.result c.args.starts.now c.args.places.now c.event.ensures.found c.event.ensures.named.0 c.requires.starts c.requires.places in
    let inside = within_row c.args.raw.now.events c.args.event c.event.result c.event.ensures.found in
    omega (arith, c.requires.filled.len)

pub returns : goal.returns
returns c =
    let at = spot c.args.raw.now.events _ c.args.event c.event.result c.args.starts.now c.args.places.now c.event.ensures.found c.event.ensures.named.0 c.requires.starts c.requires.places in
    rw at (IsFilled-more c.args.raw.now.events _ c.args.event c.event.result _ c.event.ensures.found c.requires.filled)
