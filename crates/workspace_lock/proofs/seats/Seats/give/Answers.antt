use Rattle.std.proofs.Common.{◌≡◌, ◌-◌, Some, slice_get, sym, ◌∙◌, subst, ap, refl, slice_set, arith}
use Rattle.workspace_lock.specs.Seating.{Site, site_at}
use Rattle.workspace_lock.proofs.RowLemmas.{seats_set, some_in_row, none_in_row}
use Rattle.workspace_lock.proofs.seats.Seats.give.Goals as goal

pub returns-then-is_in-clause-err : goal.returns-then-is_in-clause-err
returns-then-is_in-clause-err c = let b = c.self.inside.hall.value.lock.shared in let site : Site = site_at b.table_id b.key.bench.value b.key.clients in let same : c.args.seat.site ≡ site = c.requires ∙ sym (ap (λ r. r.site) c.self.view_is) in
    let n = ap (λ z. z.clients) same in let l = c.self.invariant.1 in let e = c.row-i.ensures.0 in let h = c.row-i.ensures.1 in
    let g = some_in_row c.self.inside.rows.items c.row-i.result c.index.result.now (omega arith) c.index.ensures (sym c.is_some-is_in.ensures ∙ c.if-is_in.true) in
    let k : c.args.seat.number - 1 ≡ c.row-i.result = omega arith in let rows = ap (λ r. r.rows) c.self.view_is in
    (refl, refl, (g.0, subst (λ l. slice_get l (c.args.seat.number - 1) ≡ Some (Some g.0)) rows (ap (slice_get c.self.inside.rows.items) k ∙ g.1)))

pub invariant_of-self : goal.invariant_of-self
invariant_of-self c = let b = c.self.inside.hall.value.lock.shared in let site : Site = site_at b.table_id b.key.bench.value b.key.clients in let same : c.args.seat.site ≡ site = c.requires ∙ sym (ap (λ r. r.site) c.self.view_is) in
    seats_set site c.self.inside.rows.items c.row-i.result (Some c.args.seat) c.self.invariant (λ k e. (same, sym c.row-i.ensures.0 ∙ sym e))

pub returns-clause-ok : goal.returns-clause-ok
returns-clause-ok c = let b = c.self.inside.hall.value.lock.shared in let site : Site = site_at b.table_id b.key.bench.value b.key.clients in let same : c.args.seat.site ≡ site = c.requires ∙ sym (ap (λ r. r.site) c.self.view_is) in
    let n = ap (λ z. z.clients) same in let l = c.self.invariant.1 in let e = c.row-i.ensures.0 in let h = c.row-i.ensures.1 in let k : c.args.seat.number - 1 ≡ c.row-i.result = omega arith in
    let g = none_in_row c.self.inside.rows.items c.row-i.result c.index.result.now (omega arith) c.index.ensures (sym c.is_some-is_in.ensures ∙ c.if-is_in.false) in
    rw (← c.self.view_is) (ap (slice_get c.self.inside.rows.items) k ∙ g, ap (λ i. record { site = site; rows = slice_set c.self.inside.rows.items i (Some c.args.seat) }) (sym k))
