use Rattle.std.proofs.Common.{rules, subst, arith, length-append, length, ◌∷◌, [], ap, ◌∙◌}
use Rattle.std.proofs.lemmas.Grind.{common_steps}
use Rattle.workspace_lock.specs.Seating.{mark_in}
use Rattle.workspace_lock.specs.Rows.{AllSeated, IsSeated}
use Rattle.workspace_lock.proofs.RowLemmas.{seated_rest, moved_on, all_in, longer_first}
use Rattle.workspace_lock.proofs.seats.gather.Goals as goal

pub unreachable-requires : goal.unreachable-requires
unreachable-requires c = let z = c.args.lock.now.shared.table_id in subst (IsSeated z) c.in_default-row.is (seated_rest z c.pop.new.self.items c.in-Some.row (subst (AllSeated z) c.in-Some.ensures.items c.loop-row.invariant.rows)).1

pub join_in-requires-clause-seat : goal.join_in-requires-clause-seat
join_in-requires-clause-seat c = let z = c.args.lock.now.shared.table_id in subst (IsSeated z) c.in-Some-row.is (seated_rest z c.pop.new.self.items c.in-Some.row (subst (AllSeated z) c.in-Some.ensures.items c.loop-row.invariant.rows)).1

pub loop-row-preserved : goal.loop-row-preserved
loop-row-preserved c = let z = c.args.lock.now.shared.table_id in let inv = c.loop-row.invariant in let items = c.in-Some.ensures.items in let now = c.join_in.ensures.2 in
    record {
      same = search rules;
      gathers = c.join_in.ensures.1;
      first = let f = longer_first c.loop-row.place.me.0.marks c.join_in.new.place.me.0.marks (mark_in c.in-Some-row.seat) now inv.first.0 in (f.0, f.1 ∙ inv.first.1);
      rows = (seated_rest z c.pop.new.self.items c.in-Some.row (subst (AllSeated z) items inv.rows)).0;
      count = let a = ap length items ∙ length-append c.pop.new.self.items (c.in-Some.row ∷ []) in let b = ap length now ∙ length-append c.loop-row.place.me.0.marks (mark_in c.in-Some-row.seat ∷ []) in let k = inv.count in omega arith;
      marks = moved_on c.args.place.now.me.0.marks c.loop-row.place.me.0.marks c.join_in.new.place.me.0.marks c.args.rows.items c.loop-row.rows.items c.pop.new.self.items c.in-Some.row c.in-Some-row.seat items c.in-Some-row.is now inv.marks;
    }

pub returns-clause-marks : goal.returns-clause-marks
returns-clause-marks c = all_in c.args.place.now.me.0.marks c.loop-row.place.me.0.marks c.args.rows.items c.loop-row.rows.items (grind (arith, common_steps)) c.loop-row.invariant.marks
