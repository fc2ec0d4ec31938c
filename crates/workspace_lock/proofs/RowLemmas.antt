-- The marks of rows of seats.
use Rattle.std.proofs.lemmas.List.Elements.{All-nil, All-cons, All-pop, All-contains, Contains-append_left, Contains-append_right, Contains-append_cases}
use Rattle.std.proofs.Common.{Contains, ◌≡◌, ℕ, ◌+◌, ◌≤◌, ◌<◌, zero, suc, true, false, is_some, slice_get, get_or, set, length-set, List, [], ◌∷◌, ◌++◌, length, sym, refl, ap, ◌∙◌, subst, ⊎_elim, arith, length-append, Option, Some, None}
use Rattle.std.proofs.lemmas.List.{append-nil}
use Rattle.std.proofs.lemmas.Option.{slice_get_within}
use mathlib.Core.Logic.{dite}
use native.Mathlib.Decide.{ℕ_discrete}
use Rattle.atomic_table.specs.Table.{Joins}
use Rattle.atomic_table.specs.Seated.{TableId}
use Rattle.inverse_log.specs.Log.{Benched}
use Rattle.workspace_lock.specs.Turns.{Mark, Sees}
use Rattle.workspace_lock.specs.Seating.{SeatView, mark_in, Site, Closes}
use Rattle.workspace_lock.specs.Places.{idle, blank, solo, first_mark, mark_of, PlaceState}
use Rattle.workspace_lock.specs.Rule.{Kept}
use Rattle.workspace_lock.specs.Steps.{joined}
use Rattle.workspace_lock.specs.Rows.{HasAll, Gathers, marks_in, IsSeated, AllSeated, RowFits, RowsFit, IsEnd, IsSeatsView}
use Rattle.workspace_lock.proofs.EndLemmas.{joins}

some_is : {A : Type 0} (a b : A) → Some a ≡ Some b → a ≡ b
some_is a b e = cc e

-- a mark that stands first, or later
pub stands_first : (k m : Mark) (ks : List Mark) → m ≡ k → Contains (k ∷ ks) m
stands_first k m ks e = (0, omega arith, sym e)

pub stands_later : (k m : Mark) (ks : List Mark) → Contains ks m → Contains (k ∷ ks) m
stands_later k m ks h = Contains-append_right (k ∷ []) ks m h

marks_snoc : (os : List (Option SeatView)) (c : SeatView) → marks_in (os ++ Some c ∷ []) ≡ marks_in os ++ mark_in c ∷ []
marks_snoc [] c = refl
marks_snoc (Some d ∷ os) c = ap (λ l. mark_in d ∷ l) (marks_snoc os c)
marks_snoc (None ∷ os) c = marks_snoc os c

-- the last row's mark goes over to the place
pub moved : (ms : List Mark) (os : List (Option SeatView)) (c : SeatView) → HasAll (ms ++ marks_in (os ++ Some c ∷ [])) ((ms ++ mark_in c ∷ []) ++ marks_in os)
moved ms os c m h = let k : Mark = mark_in c in let now : List Mark = ms ++ k ∷ [] in
    ⊎_elim (λ a. Contains-append_left now (marks_in os) m (Contains-append_left ms (k ∷ []) m a))
    (λ b. ⊎_elim (λ x. Contains-append_right now (marks_in os) m x) (λ y. Contains-append_left now (marks_in os) m (Contains-append_right ms (k ∷ []) m y))
    (Contains-append_cases (marks_in os) (k ∷ []) m (subst (λ l. Contains l m) (marks_snoc os c) b)))
    (Contains-append_cases ms (marks_in (os ++ Some c ∷ [])) m h)

pub seated_rest : (z : TableId) (os : List (Option SeatView)) (o : Option SeatView) → AllSeated z (os ++ o ∷ []) → AllSeated z os × IsSeated z o
seated_rest z os o h = All-pop (IsSeated z) (os ++ o ∷ []) os (Some o) refl h

pub joins_from : (start : Benched) (clients id other : ℕ) (m n : PlaceState) (k : Mark) (turns : ℕ) → Gathers m → n ≡ (solo k turns idle, []) → Joins (Kept start clients) id m.0 other n.0 (joined m.0 n.0) blank
joins_from start clients id other m n k turns g e = joins start clients id m.0 other n.0 g.idle_is (ap (λ (x : PlaceState). x.0.stage) e)

pub gathered : (m n x : PlaceState) (k : Mark) (turns : ℕ) → Gathers m → n ≡ (solo k turns idle, []) → turns ≤ 4294967295 → x ≡ (joined m.0 n.0, m.1) → Gathers x × (x.0.marks ≡ m.0.marks ++ k ∷ [])
gathered m n x k turns g e small is = let same : x ≡ (joined m.0 (solo k turns idle), m.1) = is ∙ ap (λ (y : PlaceState). (joined m.0 y.0, m.1)) e in
    let P : PlaceState → Type 0 = λ y. Gathers y × (y.0.marks ≡ m.0.marks ++ k ∷ []) in
    subst P (sym same) (record { idle_is = g.idle_is; empty = g.empty; fair = let f = g.fair in let l = length-append m.0.marks (k ∷ []) in omega arith }, refl)

pub marks_none : (os : List (Option SeatView)) → length os ≡ 0 → marks_in os ≡ []
marks_none [] e = refl
marks_none (o ∷ os) e = absurd (omega arith)

pub moved_on : (m0 ms ns : List Mark) (r0 os new : List (Option SeatView)) (row : Option SeatView) (c : SeatView) → os ≡ new ++ row ∷ [] → row ≡ Some c → ns ≡ ms ++ mark_in c ∷ []
    → HasAll (m0 ++ marks_in r0) (ms ++ marks_in os) → HasAll (m0 ++ marks_in r0) (ns ++ marks_in new)
moved_on m0 ms ns r0 os new row c e is now h m g =
    subst (λ l. Contains (l ++ marks_in new) m) (sym now) (moved ms new c m (subst (λ l. Contains (ms ++ marks_in l) m) (e ∙ ap (λ o. new ++ o ∷ []) is) (h m g)))

pub all_in : (m0 ms : List Mark) (r0 os : List (Option SeatView)) → length os ≡ 0 → HasAll (m0 ++ marks_in r0) (ms ++ marks_in os) → HasAll (m0 ++ marks_in r0) ms
all_in m0 ms r0 os e h m g = subst (λ l. Contains l m) (ap (λ l. ms ++ l) (marks_none os e) ∙ append-nil ms) (h m g)

pub longer_first : (ms ns : List Mark) (k : Mark) → ns ≡ ms ++ k ∷ [] → 0 < length ms → (0 < length ns) × (first_mark ns ≡ first_mark ms)
longer_first [] ns k e h = absurd (omega arith)
longer_first (m ∷ ms) ns k e h = (let l = ap length e in omega arith, ap first_mark e)

-- each row of a room that has a seat has the one of its number, at its site
pub row_at : (site : Site) (n : ℕ) (os : List (Option SeatView)) (i : ℕ) (c : SeatView) → RowsFit site n os → slice_get os i ≡ Some (Some c) → (c.site ≡ site) × (c.number ≡ n + i)
row_at site n [] i c h e = absurd (cc e)
row_at site n (o ∷ os) zero c h e = let is : o ≡ Some c = some_is o (Some c) e in let f = subst (RowFits site n) is h.0 in (f.0, f.1 ∙ (omega arith))
row_at site n (o ∷ os) (suc i) c h e = let r = row_at site (suc n) os i c h.1 e in (r.0, r.1 ∙ (omega arith))

pub all_seated : (site : Site) (n : ℕ) (os : List (Option SeatView)) → RowsFit site n os → ((i : ℕ) → i < length os → (c : SeatView) × (slice_get os i ≡ Some (Some c))) → AllSeated site.table os
all_seated site n [] h f = All-nil (IsSeated site.table)
all_seated site n (o ∷ os) h f = let g = f 0 (omega arith) in let is : o ≡ Some g.0 = some_is o (Some g.0) g.1 in
    All-cons (IsSeated site.table) o os (subst (IsSeated site.table) (sym is) (ap (λ (x : Site). x.table) (subst (RowFits site n) is h.0).0)) (all_seated site (suc n) os h.1 (λ i l. f (suc i) (omega arith)))

pub mark_of_row : (os : List (Option SeatView)) (i : ℕ) (c : SeatView) → slice_get os i ≡ Some (Some c) → Contains (marks_in os) (mark_in c)
mark_of_row [] i c e = absurd (cc e)
mark_of_row (Some d ∷ os) zero c e = stands_first (mark_in d) (mark_in c) (marks_in os) (ap mark_in (sym (some_is d c (some_is (Some d) (Some c) e))))
mark_of_row (None ∷ os) zero c e = absurd (cc (some_is None (Some c) e))
mark_of_row (Some d ∷ os) (suc i) c e = stands_later (mark_in d) (mark_in c) (marks_in os) (mark_of_row os i c e)
mark_of_row (None ∷ os) (suc i) c e = mark_of_row os i c e

get_here : (os : List (Option SeatView)) (k : ℕ) (x : Option SeatView) → k < length os → x ≡ get_or os k x → slice_get os k ≡ Some x
get_here [] k x h e = absurd (omega arith)
get_here (o ∷ os) zero x h e = ap Some (sym e)
get_here (o ∷ os) (suc k) x h e = get_here os k x (omega arith) e

seat_in : (x : Option SeatView) → is_some x ≡ true → (c : SeatView) × (x ≡ Some c)
seat_in (Some c) e = (c, refl)
seat_in None e = absurd (cc e)

pub is_in_next : (os : List (Option SeatView)) (k : ℕ) (x : Option SeatView) → k < length os → x ≡ get_or os k x → is_some x ≡ true → ((i : ℕ) → i < k → (c : SeatView) × (slice_get os i ≡ Some (Some c)))
    → (i : ℕ) → i < k + 1 → (c : SeatView) × (slice_get os i ≡ Some (Some c))
is_in_next os k x h e is before i l = dite (ℕ_discrete i k) (λ n. let c = seat_in x is in (c.0, ap (slice_get os) n ∙ (get_here os k x h e ∙ ap Some c.1))) (λ n. before i (omega arith))

pub gathers_solo : (m : PlaceState) (k : Mark) (turns : ℕ) → m ≡ (solo k turns idle, []) → turns ≤ 4294967295 → Gathers m
gathers_solo m k turns e h = subst Gathers (sym e) record { idle_is = refl; empty = refl; fair = omega arith }

last_at : (new : List (Option SeatView)) (o : Option SeatView) → slice_get (new ++ o ∷ []) (length new) ≡ Some o
last_at [] o = refl
last_at (x ∷ new) o = last_at new o

pub closed_seats : (site : Site) (os new : List (Option SeatView)) (o : Option SeatView) (first : SeatView) (turns : ℕ) (m0 m1 : PlaceState) (b : Benched) → RowsFit site 1 os → os ≡ new ++ o ∷ [] → o ≡ Some first → m0 ≡ (solo (mark_in first) turns idle, [])
    → HasAll (m0.0.marks ++ marks_in new) m1.0.marks → mark_of m1.0 ≡ mark_of m0.0 → IsEnd (mark_of m1.0).start.trace m1.0.marks b → Closes (record { site = site; rows = os }) b
closed_seats site os new o first turns m0 m1 b fit items is e all same end =
    let at = row_at site 1 os (length new) first fit (ap (λ l. slice_get l (length new)) items ∙ (last_at new o ∙ ap Some is)) in
    let k : mark_of m1.0 ≡ mark_in first = same ∙ ap (λ (x : PlaceState). mark_of x.0) e in (
      end.trace_is ∙ (ap (λ (m : Mark). m.start.trace) k ∙ ap (λ (z : Site). z.start.trace) at.0),
      λ i c g. let there : Contains (marks_in (new ++ Some first ∷ [])) (mark_in c) = subst (λ l. Contains (marks_in l) (mark_in c)) (items ∙ ap (λ x. new ++ x ∷ []) is) (mark_of_row os i c g) in
          let over : Contains (m0.0.marks ++ marks_in new) (mark_in c) = subst (λ (x : PlaceState). Contains (x.0.marks ++ marks_in new) (mark_in c)) (sym e) (moved [] new first (mark_in c) there) in
          All-contains (λ k. Sees k b.log) m1.0.marks (mark_in c) end.seen (all (mark_in c) over),
    )

pub rows_set : (site : Site) (n : ℕ) (os : List (Option SeatView)) (i : ℕ) (o : Option SeatView) → RowsFit site n os → ((k : ℕ) → k ≡ n + i → RowFits site k o) → RowsFit site n (set os i o)
rows_set site n [] i o h f = tt
rows_set site n (p ∷ os) zero o h f = (f n (omega arith), h.1)
rows_set site n (p ∷ os) (suc i) o h f = (h.0, rows_set site (suc n) os i o h.1 (λ k e. f k (omega arith)))

pub seats_set : (site : Site) (os : List (Option SeatView)) (i : ℕ) (o : Option SeatView) → IsSeatsView site os → ((k : ℕ) → k ≡ i + 1 → RowFits site k o) → IsSeatsView site (set os i o)
seats_set site os i o h f = (h.0, length-set os i o ∙ h.1, h.2, h.3, rows_set site 1 os i o h.4 (λ k e. f k (omega arith)))

pub row_is : (os : List (Option SeatView)) (i : ℕ) (f : Option SeatView) (c : SeatView) → f ≡ get_or os i f → slice_get os i ≡ Some (Some c) → f ≡ Some c
row_is os i f c e g = some_is f (Some c) (sym (get_here os i f (slice_get_within os i (Some c) g) e) ∙ g)

pub some_in_row : (os : List (Option SeatView)) (i : ℕ) (x : Option SeatView) → i < length os → x ≡ get_or os i x → is_some x ≡ true → (c : SeatView) × (slice_get os i ≡ Some (Some c))
some_in_row os i x h e is = let c = seat_in x is in (c.0, get_here os i x h e ∙ ap Some c.1)

none_of : (x : Option SeatView) → is_some x ≡ false → x ≡ None
none_of (Some c) e = absurd (cc e)
none_of None e = refl

pub none_in_row : (os : List (Option SeatView)) (i : ℕ) (x : Option SeatView) → i < length os → x ≡ get_or os i x → is_some x ≡ false → slice_get os i ≡ Some None
none_in_row os i x h e is = get_here os i x h e ∙ ap Some (none_of x is)
