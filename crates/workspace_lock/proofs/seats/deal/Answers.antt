use Rattle.std.proofs.Common.{rules, ◌∙◌, sym, ap, subst, ◌≡◌, length, arith, vec_len}
use Rattle.std.proofs.lemmas.Grind.{common_steps}
use Rattle.workspace_lock.specs.Seating.{site_at}
use Rattle.workspace_lock.specs.Rows.{AllSeated, RowsFit}
use Rattle.workspace_lock.proofs.DealLemmas.{splits_from, deal_next, deal_off, dealt_length, rows_length, rows_seated, rows_fit, nothing_done, rows_next, seat_dealt}
use Rattle.workspace_lock.proofs.seats.deal.Goals as goal

pub gather-requires-clause-rows : goal.gather-requires-clause-rows
gather-requires-clause-rows c = let b = c.args.hall.value.lock.shared in let site = site_at b.table_id b.key.bench.value c.args.clients in
    subst (λ z. AllSeated z c.loop-i.rows.items) (sym (ap (λ t. t.lock.shared.table_id) c.deref.ensures)) (subst (AllSeated b.table_id) (sym c.loop-i.invariant.rows) (rows_seated site 1 c.loop-i.i))

pub finish-requires-clause-all : goal.finish-requires-clause-all
finish-requires-clause-all c = let b = c.args.hall.value.lock.shared in let site = site_at b.table_id b.key.bench.value c.args.clients in let l = dealt_length b.key.bench.value c.args.clients c.loop-i.i c.loop-i.place.me c.loop-i.invariant.place in
    let r = ap length c.loop-i.invariant.rows ∙ rows_length site 1 c.loop-i.i in let n = c.gather.ensures.count in let t = c.loop-i-test.true in let k = c.requires.clients.0 in let same : c.deref-in_default.result.now.lock.shared.key.clients ≡ b.key.clients = ap (λ t. t.lock.shared.key.clients) c.deref-in_default.ensures in
    (omega arith, omega arith)

pub returns-in_default-clause-err : goal.returns-in_default-clause-err
returns-in_default-clause-err c = let b = c.args.hall.value.lock.shared in nothing_done b.table_id b.key.bench.value c.args.clients c.loop-i.i c.loop-i.place.me c.gather.new.place.me c.loop-i.rows.items c.finish.result c.requires.clients.1 c.loop-i-test.true
    c.loop-i.invariant.place c.loop-i.invariant.rows c.gather.ensures.marks c.gather.ensures.place.2 c.finish.ensures

pub split_seat-other-requires : goal.split_seat-other-requires
split_seat-other-requires c = let b = c.args.hall.value.lock.shared in (
  search rules,
  search rules,
  splits_from b.key.bench.value c.args.clients _ _ _ c.loop-i.i c.loop-i.place.me c.loop-i.invariant.place,
)

pub push_reserved-requires : goal.push_reserved-requires
push_reserved-requires c = let b = c.args.hall.value.lock.shared in let site = site_at b.table_id b.key.bench.value c.args.clients in let r = ap length c.loop-i.invariant.rows ∙ rows_length site 1 c.loop-i.i in let t = c.loop-i-test.true in let m = c.loop-i.invariant.room in
    let k = c.requires.rows.1 in let l : vec_len c.loop-i.rows ≡ length c.loop-i.rows.items = grind (arith, common_steps) in omega arith

pub loop-i-preserved : goal.loop-i-preserved
loop-i-preserved c = let b = c.args.hall.value.lock.shared in let site = site_at b.table_id b.key.bench.value c.args.clients in let inv = c.loop-i.invariant in
    record {
      same = search rules;
      place = deal_next b.key.bench.value c.args.clients c.loop-i.i c.loop-i.place.me c.split_seat-other.new.seat.me c.loop-i-test.true inv.place c.split_seat-other.ensures.2;
      rows = rows_next site c.loop-i.rows.items c.push_reserved.new.self.items c.at.result c.loop-i.i inv.rows c.push_reserved.ensures.items
          (c.at.ensures ∙ seat_dealt b.table_id _ b.key.bench.value c.args.clients c.loop-i.i c.split_seat-other.result.me (c.split_seat-other.ensures.3 ∙ (c.loop-i.invariant.same ∙ c.requires.place.0)) (deal_off b.key.bench.value c.args.clients c.loop-i.i c.loop-i.place.me c.split_seat-other.result.me c.loop-i-test.true inv.place c.split_seat-other.ensures.4));
      room = search rules;
    }

pub invariant_of-result : goal.invariant_of-result
invariant_of-result c = let b = c.args.hall.value.lock.shared in let site = site_at b.table_id b.key.bench.value c.args.clients in let k = c.requires.clients.0 in let inv = c.loop-i.invariant in let low = c.loop-i-test.false in let high = c.loop-i.auto.i-end in
    let all : c.loop-i.i ≡ c.args.clients = omega arith in let r = ap length inv.rows ∙ rows_length site 1 c.loop-i.i in (
      search rules,
      omega arith,
      omega arith,
      omega arith,
      subst (λ n. RowsFit (site_at b.table_id b.key.bench.value n) 1 c.loop-i.rows.items) k (subst (RowsFit site 1) (sym inv.rows) (rows_fit site 1 c.loop-i.i)),
    )
