use Rattle.std.proofs.Common.{◌≡◌, ◌+◌, ◌<◌, ◌≤◌, ◌∙◌, length, nat_lt, slice_index, arith}
use Rattle.variable_uses.specs.Table.{holds_in}
use Rattle.variable_uses.proofs.TotalLemmas.{holds_grow, holds_more}
use Rattle.variable_uses.proofs.locks.add_all.Goals as goal

pub returns-then-holds-gt-MOST_HOLDS-clause-many : goal.returns-then-holds-gt-MOST_HOLDS-clause-many
returns-then-holds-gt-MOST_HOLDS-clause-many c =
    let r = c.args.indexed.now in
    let event = c.loop-event.event in
    let more = holds_more r (λ e. nat_lt 0 (slice_index c.args.numbers.now e)) event in
    let grow = holds_grow r (λ e. nat_lt 0 (slice_index c.args.numbers.now e)) (event + 1) (length r.events) (omega (arith, c.loop-event-test.true, c.len-event-end.ensures.len)) in
    λ _. omega (arith, c.if-holds-gt-MOST_HOLDS.true, c.saturating_add-holds.ensures, c.loop-event.invariant.total, c.in_ok-count.ensures.count, more, grow)

pub loop-event-preserved : goal.loop-event-preserved
loop-event-preserved c =
    let more = holds_more c.args.indexed.now (λ e. nat_lt 0 (slice_index c.args.numbers.now e)) c.loop-event.event in
    record {
      len = c.in_ok-count.ensures.len ∙ c.loop-event.invariant.len;
      threads = c.in_ok-note.ensures.len ∙ c.loop-event.invariant.threads;
      uses = c.in_ok-count.ensures.uses;
      total = omega (arith, c.if-holds-gt-MOST_HOLDS.false, c.saturating_add-holds.ensures, c.loop-event.invariant.total, c.in_ok-count.ensures.count, more);
      few = omega (arith, c.if-holds-gt-MOST_HOLDS.false);
      held = c.in_ok-note.ensures.held;
    }
