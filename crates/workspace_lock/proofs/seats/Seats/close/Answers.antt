use Rattle.std.proofs.Common.{◌∙◌, sym, ap, subst, ◌≡◌, ℕ, ◌<◌, Some, slice_get, length, List, Option, ◌++◌, ◌∷◌, []}
use Rattle.workspace_lock.specs.Seating.{SeatView, Site, site_at}
use Rattle.workspace_lock.specs.Rows.{AllSeated, IsSeated, RowsFit}
use Rattle.workspace_lock.proofs.RowLemmas.{all_seated, seated_rest, gathers_solo, closed_seats}
use Rattle.workspace_lock.proofs.seats.Seats.close.Goals as goal

-- the rest is seated, and so is the last one
seats : (site : Site) (os new : List (Option SeatView)) (o : Option SeatView) (first : SeatView) → RowsFit site 1 os → ((i : ℕ) → i < length os → (c : SeatView) × (slice_get os i ≡ Some (Some c))) → os ≡ new ++ o ∷ [] → o ≡ Some first
    → AllSeated site.table new × (first.site.table ≡ site.table)
seats site os new o first fit ins items is = let r = seated_rest site.table new o (subst (AllSeated site.table) items (all_seated site 1 os fit ins)) in (r.0, subst (IsSeated site.table) is r.1)

pub gather-requires-clause-place : goal.gather-requires-clause-place
gather-requires-clause-place c = let x = c.in-Some-Some in let b = c.self.inside.hall.value.lock.shared in let s = seats (site_at b.table_id b.key.bench.value b.key.clients) c.self.inside.rows.items c.pop.new.self.items x.field-0 x.first c.self.invariant.4
    (subst (λ l. (i : ℕ) → i < length l → (c : SeatView) × (slice_get l i ≡ Some (Some c))) c.as_slice.ensures.value c.if-is_one_out.ensures) x.ensures.items x.field-0-is in
    (c.into_place-place.ensures.0 ∙ (s.1 ∙ sym (ap (λ t. t.lock.shared.table_id) c.deref.ensures)), c.into_place-place.ensures.1, gathers_solo _ _ _ c.into_place-place.ensures.2 c.into_place-place.ensures.3)

pub gather-requires-clause-rows : goal.gather-requires-clause-rows
gather-requires-clause-rows c = let x = c.in-Some-Some in let b = c.self.inside.hall.value.lock.shared in let s = seats (site_at b.table_id b.key.bench.value b.key.clients) c.self.inside.rows.items c.pop.new.self.items x.field-0 x.first c.self.invariant.4
    (subst (λ l. (i : ℕ) → i < length l → (c : SeatView) × (slice_get l i ≡ Some (Some c))) c.as_slice.ensures.value c.if-is_one_out.ensures) x.ensures.items x.field-0-is in
    subst (λ z. AllSeated z c.pop.new.self.items) (sym (ap (λ t. t.lock.shared.table_id) c.deref.ensures)) s.0

pub finish-requires-clause-place : goal.finish-requires-clause-place
finish-requires-clause-place c = let x = c.in-Some-Some in let b = c.self.inside.hall.value.lock.shared in let s = seats (site_at b.table_id b.key.bench.value b.key.clients) c.self.inside.rows.items c.pop.new.self.items x.field-0 x.first c.self.invariant.4
    (subst (λ l. (i : ℕ) → i < length l → (c : SeatView) × (slice_get l i ≡ Some (Some c))) c.as_slice.ensures.value c.if-is_one_out.ensures) x.ensures.items x.field-0-is in
    let e = c.gather.ensures.place.0 in
    (e ∙ (c.into_place-place.ensures.0 ∙ (s.1 ∙ sym (ap (λ t. t.lock.shared.table_id) c.deref-2.ensures))), (ap (λ z. z.words) e ∙ c.into_place-place.ensures.1.0, ap (λ z. z.slots) e ∙ c.into_place-place.ensures.1.1), c.gather.ensures.place.1)

pub returns-clause-ok : goal.returns-clause-ok
returns-clause-ok c = let x = c.in-Some-Some in let b = c.self.inside.hall.value.lock.shared in let site = site_at b.table_id b.key.bench.value b.key.clients in
    rw (← c.self.view_is) (
      closed_seats site c.self.inside.rows.items c.pop.new.self.items x.field-0 x.first x.first.turns c.into_place-place.result.me c.gather.new.place.me c.finish.result c.self.invariant.4 x.ensures.items x.field-0-is
          c.into_place-place.ensures.2 c.gather.ensures.marks c.gather.ensures.place.2 c.finish.ensures,
      subst (λ l. (i : ℕ) → i < length l → (c : SeatView) × (slice_get l i ≡ Some (Some c))) c.as_slice.ensures.value c.if-is_one_out.ensures,
    )
