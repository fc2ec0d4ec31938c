use Rattle.std.proofs.Common.{Option, IfSome, get_or, length, subst}
use Rattle.witness_search.specs.trace_order.Joining.{IsDue}
use Rattle.shb_clocks.proofs.ReadLemmas.{thread_named}
use Rattle.witness_search.specs.trace_order.Layout.{IsEither}
use Rattle.witness_search.specs.declared.trace_order.joining.Due.{Due}
use Rattle.witness_search.proofs.trace_order.JoinLemmas.{IsNeededRow-joined, IsJoined-due, smaller_due, due_read, closed_read}
use Rattle.witness_search.proofs.trace_order.joining.joined_row.Goals as goal

pub loop-next-init : goal.loop-next-init
loop-next-init c =
    let T = c.args.indexed.now.events in
    let row = c.in_ok-row.row.items in
    record {
      len = c.in_ok-row.ensures.len;
      joined = c.in_ok-row.ensures.joined;
      due = due_read T row c.as_slice.result.now c.due-next.result c.as_slice.ensures.value c.due-next.ensures.due;
      within = c.due-next.ensures.within;
      none = closed_read T row c.as_slice.result.now c.due-next.result c.as_slice.ensures.value c.due-next.ensures.none;
    }

pub loop-next-smaller : goal.loop-next-smaller
loop-next-smaller c =
    let T = c.args.indexed.now.events in
    let row = c.loop-next.row.items in
    let new = c.raise.new.row.items in
    let inv = c.loop-next.invariant in
    let due : IsDue T (λ t. get_or row t 0) c.in-Some.due.end = subst (λ (o : Option Due). IfSome o (λ d. IsDue T (λ t. get_or row t 0) d.end))
    c.in-Some.is inv.due in
    smaller_due T c.begun.ensures.disciplined (IsEither c.args.first c.args.second) row new (length c.args.indexed.now.threads) inv.len c.raise.ensures.len
    (thread_named c.args.indexed.now c.begun.ensures.well_formed) inv.joined c.in-Some.due.end due c.raise.ensures.joins

pub loop-next-preserved : goal.loop-next-preserved
loop-next-preserved c =
    let T = c.args.indexed.now.events in
    let row = c.loop-next.row.items in
    let new = c.raise.new.row.items in
    let inv = c.loop-next.invariant in
    let due : IsDue T (λ t. get_or row t 0) c.in-Some.due.end = subst (λ (o : Option Due). IfSome o (λ d. IsDue T (λ t. get_or row t 0) d.end))
    c.in-Some.is inv.due in
    let again = c.due-next-in-Some in
    record {
      len = c.raise.ensures.len;
      joined = IsJoined-due T c.begun.ensures.disciplined (IsEither c.args.first c.args.second) row new (length c.args.indexed.now.threads) inv.len
          c.raise.ensures.len
          (thread_named c.args.indexed.now c.begun.ensures.well_formed) inv.joined c.in-Some.due.end due c.raise.ensures.joins;
      due = due_read T new c.as_slice-in-Some.result.now again.result c.as_slice-in-Some.ensures.value again.ensures.due;
      within = again.ensures.within;
      none = closed_read T new c.as_slice-in-Some.result.now again.result c.as_slice-in-Some.ensures.value again.ensures.none;
    }

pub returns-clause-row : goal.returns-clause-row
returns-clause-row c =
    IsNeededRow-joined c.args.indexed.now.events (IsEither c.args.first c.args.second) (λ t. get_or c.loop-next.row.items t 0) c.loop-next.invariant.joined
    (c.loop-next.invariant.none c.in_default.is)

pub returns-clause-within : goal.returns-clause-within
returns-clause-within c = c.loop-next.invariant.joined.within
