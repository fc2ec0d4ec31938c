use Rattle.std.proofs.Common.{Option, IfSome, get_or, length, subst, ◌∙◌, ℕ}
use Rattle.shb_clocks.proofs.ReadLemmas.{thread_named}
use Rattle.witness_search.specs.trace_order.Counting.{IsAhead}
use Rattle.witness_search.proofs.trace_order.WantLemmas.{IsSeeking-start, IsSeeking-ahead, smaller_ahead, IsWantedRow-ended, ahead_read, ended_read}
use Rattle.witness_search.proofs.trace_order.wanting.wanted_row.Goals as goal

pub loop-next-init : goal.loop-next-init
loop-next-init c =
    let T = c.args.indexed.now.events in
    let row = c.raise.new.row.items in
    record {
      len = c.raise.ensures.len;
      seeking =
          IsSeeking-start T c.threads-threads.ensures.disciplined c.args.first c.args.second c.base.result (λ t. get_or c.args.row.items t 0) (λ t. get_or row t 0)
          c.base.ensures.base c.requires.row c.requires.within c.raise.ensures.joins;
      ahead = ahead_read T row c.as_slice.result.now c.ahead-next.result c.as_slice.ensures.value c.ahead-next.ensures.ahead;
      within = c.ahead-next.ensures.within;
      none = ended_read T row c.as_slice.result.now c.ahead-next.result c.as_slice.ensures.value c.ahead-next.ensures.none;
    }

pub loop-next-smaller : goal.loop-next-smaller
loop-next-smaller c =
    let T = c.args.indexed.now.events in
    let row = c.loop-next.row.items in
    let inv = c.loop-next.invariant in
    let ahead : IsAhead T (λ t. get_or row t 0) c.in-Some.end = subst (λ (o : Option ℕ). IfSome o (IsAhead T (λ t. get_or row t 0))) c.in-Some.is inv.ahead in
    smaller_ahead T c.threads-threads.ensures.disciplined c.args.first c.args.second row c.raise-in-Some.new.row.items (length c.args.indexed.now.threads) inv.len c.raise-in-Some.ensures.len
    (thread_named c.args.indexed.now c.threads-threads.ensures.well_formed) inv.seeking c.in-Some.end ahead c.raise-in-Some.ensures.joins

pub loop-next-preserved : goal.loop-next-preserved
loop-next-preserved c =
    let T = c.args.indexed.now.events in
    let row = c.loop-next.row.items in
    let new = c.raise-in-Some.new.row.items in
    let inv = c.loop-next.invariant in
    let ahead : IsAhead T (λ t. get_or row t 0) c.in-Some.end = subst (λ (o : Option ℕ). IfSome o (IsAhead T (λ t. get_or row t 0))) c.in-Some.is inv.ahead in
    let again = c.ahead-next-in-Some in
    record {
      len = c.raise-in-Some.ensures.len;
      seeking =
          IsSeeking-ahead T c.threads-threads.ensures.disciplined c.args.first c.args.second row new (length c.args.indexed.now.threads) inv.len c.raise-in-Some.ensures.len
          (thread_named c.args.indexed.now c.threads-threads.ensures.well_formed) inv.seeking c.in-Some.end ahead c.raise-in-Some.ensures.joins;
      ahead = ahead_read T new c.as_slice-in-Some.result.now again.result c.as_slice-in-Some.ensures.value again.ensures.ahead;
      within = again.ensures.within;
      none = ended_read T new c.as_slice-in-Some.result.now again.result c.as_slice-in-Some.ensures.value again.ensures.none;
    }

pub returns-clause-wanted : goal.returns-clause-wanted
returns-clause-wanted c =
    IsWantedRow-ended c.args.indexed.now.events c.threads-threads.ensures.disciplined c.args.first c.args.second (λ t. get_or c.loop-next.row.items t 0) c.loop-next.invariant.seeking
    (c.loop-next.invariant.none c.in_default.is)
