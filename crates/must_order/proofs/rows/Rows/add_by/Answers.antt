use Rattle.std.proofs.Common.{◌≡◌, ℕ, List, length, ap, sym, subst, ◌∙◌, arith}
use Rattle.must_order.specs.Joins.{AreJoins}
use Rattle.must_order.specs.Layout.{IsRow}
use Rattle.must_order.specs.Sections.{AreSections}
use Rattle.must_order.proofs.rows.Rows.add_by.Goals as goal

pub keep_row-requires-clause-wide : goal.keep_row-requires-clause-wide
keep_row-requires-clause-wide c = ap (λ (xs : List ℕ). length xs) c.as_slice.ensures.value ∙ c.in_ok-close_row.ensures.len

pub keep_row-requires-clause-row : goal.keep_row-requires-clause-row
keep_row-requires-clause-row c =
    subst (λ (xs : List ℕ). IsRow c.args.indexed.now.events c.loop-event.event xs) (sym c.as_slice.ensures.value) c.in_ok-close_row.ensures.row

pub loop-event-preserved : goal.loop-event-preserved
loop-event-preserved c =
    record {
      width = c.in_ok-keep_row.ensures.width;
      len = c.in_ok-keep_row.ensures.len;
      few = c.in_ok-keep_row.ensures.few;
      counts = c.in_ok-keep_row.ensures.counts;
      row = c.in_ok-close_row.ensures.len;
      spare = c.in_ok-keep_row.ensures.spare;
      known = c.in_ok-note.ensures;
      joins = c.in_ok-end.ensures;
    }

pub returns-clause-joins : goal.returns-clause-joins
returns-clause-joins c =
    let T = c.args.indexed.now.events in
    subst (λ (n : ℕ). AreJoins T n c.loop-event.self.joins.list.items c.loop-event.self.joins.starts.items) (omega (arith, c.loop-event.auto.event-end, c.len-event-end.ensures.len)) c.loop-event.invariant.joins

pub returns-clause-known : goal.returns-clause-known
returns-clause-known c =
    let last : c.loop-event.event ≡ length c.args.indexed.now.events = omega (arith, c.loop-event-test.false, c.loop-event.auto.event-end, c.len-event-end.ensures.len) in
    subst (λ (n : ℕ). AreSections c.args.indexed.now n c.loop-event.self.sections) last c.loop-event.invariant.known
