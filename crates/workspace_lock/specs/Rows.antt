-- The rows of seats and their places: how seats are made from the first place, and how they are joined again. All
-- notions here are this project's own.
use Rattle.std.specs.List.{All, Contains}
use Rattle.std.specs.Prelude.{suc, ◌-◌, ◌≡◌, ℕ, ◌+◌, ◌*◌, ◌<◌, ◌≤◌, length, List, [], ◌∷◌, ◌++◌, Option, Some, None}
use Rattle.atomic_table.specs.Seated.{TableId}
use Rattle.rapid_text.specs.Recording.{Recording}
use Rattle.inverse_log.specs.Log.{Benched}
use Rattle.dependence.specs.Limits.{client_limit}
use Rattle.workspace_lock.specs.Limits.{turn_limit}
use Rattle.workspace_lock.specs.Turns.{Mark, Sees}
use Rattle.workspace_lock.specs.Seating.{Site, SeatView, mark_in}
use Rattle.workspace_lock.specs.Places.{idle, PlaceAt, PlaceState, IsSized}
use Rattle.workspace_lock.specs.Rule.{fresh_marks}

-- the second list has every mark of the first
abbrev pub HasAll : List Mark → List Mark → Type 0
HasAll ms ns = (m : Mark) → Contains ms m → Contains ns m

-- A place that others can be joined to. It is between two calls and has no slot, and each of its clients may have
-- made all its calls.
pub record Gathers (m : PlaceState) : Type 0 where
  pub idle_is : m.0.stage ≡ idle
  pub empty : m.1 ≡ []
  pub fair : m.0.turns ≤ turn_limit * length m.0.marks

-- it is at the same table, others can still be joined to it, and P holds
abbrev pub GathersOn : PlaceAt → PlaceAt → Type 0 → Type 0
GathersOn old new P = (new.table_id ≡ old.table_id) × Gathers new.me × P

-- the seat's place was joined to the place, which has the seat's mark at the end now
abbrev pub JoinsSeat : PlaceAt → SeatView → PlaceAt → Type 0
JoinsSeat old seat new = GathersOn old new (new.me.0.marks ≡ old.me.0.marks ++ mark_in seat ∷ [])

-- what the marks of all seats say about the bench at the end
pub record IsEnd (trace : Recording) (marks : List Mark) (bench : Benched) : Type 0 where
  pub trace_is : bench.trace ≡ trace
  pub seen : All (λ k. Sees k bench.log) marks

-- the marks of the seats that are in
abbrev pub marks_in : List (Option SeatView) → List Mark
marks_in [] = []
marks_in (Some c ∷ os) = mark_in c ∷ marks_in os
marks_in (None ∷ os) = marks_in os

-- the row's seat is in, and belongs to this lock
abbrev pub IsSeated : TableId → Option SeatView → Type 0
IsSeated z (Some c) = c.site.table ≡ z
IsSeated z None = ⊥

-- all seats are in, and belong to this lock
abbrev pub AllSeated : TableId → List (Option SeatView) → Type 0
AllSeated z os = All (IsSeated z) os

-- if row n has a seat, it is the seat number n of this site
abbrev pub RowFits : Site → ℕ → Option SeatView → Type 0
RowFits site n None = Unit {0}
RowFits site n (Some c) = (c.site ≡ site) × (c.number ≡ n)

-- each row from number n on has its own seat, or none
abbrev pub RowsFit : Site → ℕ → List (Option SeatView) → Type 0
RowsFit site n [] = Unit {0}
RowsFit site n (o ∷ os) = RowFits site n o × RowsFit site (suc n) os

-- there is one row for each client of the site
abbrev pub IsSeatsView : Site → List (Option SeatView) → Type 0
IsSeatsView site rows =
    IsSized site.table
    × (length rows ≡ site.clients)
    × (0 < site.clients)
    × (site.clients ≤ client_limit)
    × RowsFit site 1 rows

-- the first place after i seats were made
abbrev pub dealt : Benched → ℕ → ℕ → PlaceState
dealt start clients i = (record { marks = fresh_marks start clients (i + 1) (clients - i); turns = 0; stage = idle }, [])
