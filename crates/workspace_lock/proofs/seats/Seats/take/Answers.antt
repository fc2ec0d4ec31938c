use Rattle.std.proofs.Common.{◌≡◌, ℕ, Some, None, IfSome, IfNone, slice_get, get_or, List, Option, sym, ◌∙◌, subst, length, slice_set, ◌-◌, ◌<◌, arith}
use Rattle.std.proofs.lemmas.Option.{slice_get_within}
use Rattle.workspace_lock.specs.Seating.{SeatView, Site, TakesFirst, site_at}
use Rattle.workspace_lock.specs.Rows.{IsSeatsView}
use Rattle.workspace_lock.proofs.RowLemmas.{seats_set, row_is, row_at}
use Rattle.workspace_lock.proofs.seats.Seats.take.Goals as goal

pub invariant_of-self : goal.invariant_of-self
invariant_of-self c = let b = c.self.inside.hall.value.lock.shared in subst (λ o. IsSeatsView (site_at b.table_id b.key.bench.value b.key.clients) (slice_set c.self.inside.rows.items c.in_ok-i.i o)) (sym c.take.ensures.after)
    (seats_set (site_at b.table_id b.key.bench.value b.key.clients) c.self.inside.rows.items c.in_ok-i.i None c.self.invariant (λ k e. tt))

takes : (site : Site) (os ps : List (Option SeatView)) (i : ℕ) (f r o : Option SeatView) → IsSeatsView site os → ps ≡ os → f ≡ get_or os i f → r ≡ f → o ≡ None
    → (i < length ps) × ((c : SeatView) × (slice_get ps i ≡ Some (Some c))) × ((j : ℕ) → j < i → slice_get ps j ≡ Some None)
    → IfSome r (λ c. TakesFirst (record { site = site; rows = os }) c (record { site = site; rows = slice_set os i o }))
takes site os ps i f r o whole same e is after h =
    let c = h.1.0 in
    let there = subst (λ l. slice_get l i ≡ Some (Some c)) same h.1.1 in
    let now : r ≡ Some c = is ∙ row_is os i f c e there in
    let at = row_at site 1 os i c whole.4 there in
    let place : i ≡ c.number - 1 = (let k = at.1 in omega arith) in
    let within = slice_get_within os i (Some c) there in
    let count = whole.1 in
    let k = at.1 in
    subst (λ x. IfSome x (λ c. TakesFirst (record { site = site; rows = os }) c (record { site = site; rows = slice_set os i o }))) (sym now) record {
      site = at.0;
      low = omega arith;
      high = omega arith;
      there = subst (λ n. slice_get os n ≡ Some (Some c)) place there;
      least = λ j l. subst (λ k. slice_get k j ≡ Some None) same (h.2 j (omega arith));
      out = λ z. record { site = site; rows = slice_set os (place z) (after z) };
    }

pub returns-clause-some : goal.returns-clause-some
returns-clause-some c =
    let b = c.self.inside.hall.value.lock.shared in
    rw (← c.self.view_is)
    (takes (site_at b.table_id b.key.bench.value b.key.clients) c.self.inside.rows.items c.as_slice.result.now c.in_ok-i.i c.index_mut-row.result.now c.take.result c.take.new.self c.self.invariant c.as_slice.ensures.value c.index_mut-row.ensures.value c.take.ensures.value c.take.ensures.after c.in_ok-i.ensures.some)

no_none : (os ps : List (Option SeatView)) (i : ℕ) (f r : Option SeatView) (P : Type 0) → ps ≡ os → f ≡ get_or os i f → r ≡ f
    → (i < length ps) × ((c : SeatView) × (slice_get ps i ≡ Some (Some c))) × ((j : ℕ) → j < i → slice_get ps j ≡ Some None) → IfNone r P
no_none os ps i f r P same e is h = let now : r ≡ Some h.1.0 = is ∙ row_is os i f h.1.0 e (subst (λ l. slice_get l i ≡ Some (Some h.1.0)) same h.1.1) in subst (λ x. IfNone x P) (sym now) tt

pub returns-clause-none : goal.returns-clause-none
returns-clause-none c = no_none c.self.inside.rows.items c.as_slice.result.now c.in_ok-i.i c.index_mut-row.result.now c.take.result _ c.as_slice.ensures.value c.index_mut-row.ensures.value c.take.ensures.value c.in_ok-i.ensures.some
