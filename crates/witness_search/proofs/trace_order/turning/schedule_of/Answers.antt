use Rattle.std.proofs.Common.{subst}
use Rattle.schedule.specs.Faults.{IsListRefusal}
use Rattle.schedule.proofs.CallerLemmas.{IsFirstFault-not}
use Rattle.witness_search.proofs.trace_order.turning.schedule_of.Goals as goal

pub unreachable-requires : goal.unreachable-requires
unreachable-requires c =
    let T = c.args.indexed.now.events in
    let refused = subst (IsListRefusal T c.args.list.now) c.in-Err-NotReordering.field-0-is c.in-Err-NotReordering.ensures.refused in
    IsFirstFault-not T c.args.list.now c.in-Err-NotReordering.field-0-0 refused.0 c.requires.reordering
