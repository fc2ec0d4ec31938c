-- The rule that always holds for the lock. The lock has three words and one slot. TICKET is the next ticket to draw,
-- SERVING is the ticket that has its turn, and FRONT is the length of the log. The slot has the bench while nobody
-- has the turn. The list of views is what all places know, including places that are used up. All notions here are
-- this project's own.
use Rattle.std.specs.Prelude.{◌≡◌, ◌⊎◌, ◌==◌, ℕ, zero, suc, ◌+◌, ◌*◌, ◌<◌, ◌≤◌, cond, List, [], ◌∷◌, length, Option, Some}
use Rattle.std.specs.List.{All, sum_by, count_by}
use mathlib.Core.Option as maybe
use mathlib.Core.Option.{some, none}
use mathlib.Core.List.{IsPrefix}
use lib.ListN.{get_elem?}
use Rattle.atomic_table.specs.Table.{State}
use Rattle.rapid_text.specs.Recording.{Recording}
use Rattle.inverse_log.specs.declared.entry.Entry.{Entry}
use Rattle.inverse_log.specs.Answer.{IsLegal}
use Rattle.inverse_log.specs.Log.{Benched, own_entries}
use Rattle.dependence.specs.Limits.{client_limit}
use Rattle.workspace_lock.specs.Limits.{turn_limit}
use Rattle.workspace_lock.specs.Turns.{Mark, mark, Past}
use Rattle.workspace_lock.specs.Places.{Stage, idle, waits, holds, PlaceView, bench_of, first_mark}

-- the marks of the clients from `number` on, before any call
abbrev pub fresh_marks : Benched → ℕ → ℕ → ℕ → List Mark
fresh_marks start clients number zero = []
fresh_marks start clients number (suc more) = mark start clients number start.log ∷ fresh_marks start clients (suc number) more

-- the view of the first place, which has the marks of all clients
abbrev pub opened : Benched → ℕ → PlaceView
opened start clients = record { marks = fresh_marks start clients 1 clients; turns = 0; stage = idle }

-- how many of the marks are marks of client c
abbrev pub claims_in : ℕ → List Mark → ℕ
claims_in c ms = count_by (λ (m : Mark). m.number == c) ms

-- how many marks of client c a place has
abbrev pub claims : ℕ → PlaceView → ℕ
claims c v = claims_in c v.marks

-- 1 if this stage has ticket t, otherwise 0
abbrev pub has_drawn : ℕ → Stage → ℕ
has_drawn t idle = 0
has_drawn t (waits k) = cond (k == t) 1 0
has_drawn t (holds k) = cond (k == t) 1 0

-- 1 if the place has ticket t, otherwise 0
abbrev pub draws : ℕ → PlaceView → ℕ
draws t v = has_drawn t v.stage

-- how many tickets the place has drawn
abbrev pub turns_of : PlaceView → ℕ
turns_of v = v.turns

-- how many clients the place has marks of
abbrev pub parts_of : PlaceView → ℕ
parts_of v = length v.marks

-- The log begins with what the client has seen, and the client has no other entries in it.
pub record Fits (start : Benched) (clients : ℕ) (log : List Entry) (m : Mark) : Type 0 where
  pub start_is : m.start ≡ start
  pub clients_are : m.clients ≡ clients
  pub low : 0 < m.number
  pub high : m.number ≤ clients
  pub begins : IsPrefix m.seen log
  pub same : own_entries log m.number ≡ own_entries m.seen m.number

-- A place with a ticket has the mark of a client. A place with the turn has the ticket that SERVING names, and has seen
-- the whole log.
abbrev pub Current : ℕ → List Entry → List Mark → Stage → Type 0
Current serving log marks idle = Unit {0}
Current serving log marks (waits t) = 0 < length marks
Current serving log marks (holds t) = (0 < length marks) × (t ≡ serving) × ((first_mark marks).seen ≡ log)

-- What a place knows is true of the log. It has drawn at most as many tickets as its clients may, and one more for
-- each.
pub record Known (start : Benched) (clients serving : ℕ) (log : List Entry) (v : PlaceView) : Type 0 where
  pub marked : All (Fits start clients log) v.marks
  pub fair : v.turns ≤ (turn_limit + 1) * length v.marks
  pub current : Current serving log v.marks v.stage

-- the bench is in its slot, and no place has the turn
abbrev pub AtHome : Recording → List Entry → List (maybe.Option (Option Benched)) → List PlaceView → Type 0
AtHome trace log homes views =
    (homes ≡ some (Some (bench_of trace log)) ∷ [])
    × ((j : ℕ) (v : PlaceView) (t : ℕ) → get_elem? views j ≡ some v → v.stage ≡ holds t → ⊥)

-- the slot is empty, and the place with the turn has taken it
abbrev pub IsOut : List (maybe.Option (Option Benched)) → List PlaceView → Type 0
IsOut homes views =
    (homes ≡ none ∷ [])
    × ((j : ℕ) × (v : PlaceView) × (t : ℕ) × (get_elem? views j ≡ some v) × (v.stage ≡ holds t))

-- the sums over the views, after `ticket` tickets were drawn and those before `serving` had their turn
pub record Counted (clients ticket serving : ℕ) (views : List PlaceView) : Type 0 where
  -- The places' own counts of tickets add up to all tickets drawn. Each client has its mark in at most one place.
  pub counted : sum_by turns_of views ≡ ticket
  pub shared : sum_by parts_of views ≡ clients
  pub apart : (c : ℕ) → sum_by (claims c) views ≤ 1
  -- Each ticket that waits for its turn is in exactly one place, and no other ticket is in any place.
  pub drawn : (t : ℕ) → serving ≤ t → t < ticket → sum_by (draws t) views ≡ 1
  pub early : (t : ℕ) → t < serving → sum_by (draws t) views ≡ 0
  pub late : (t : ℕ) → ticket ≤ t → sum_by (draws t) views ≡ 0

-- The rule. `start` is the bench at the opening, and `clients` is the number of seats.
pub record Kept (start : Benched) (clients : ℕ) (s : State (Option Benched) PlaceView) : Type 0 where
  pub ticket : ℕ
  pub serving : ℕ
  pub log : List Entry
  pub words : s.words ≡ ticket ∷ serving ∷ length log ∷ []
  pub order : serving ≤ ticket
  pub few : clients ≤ client_limit
  -- Calls of clients build the log. After the opening it has only entries of clients with a seat.
  pub legal : IsLegal start.trace log
  pub past : Past start.log clients log
  pub counts : Counted clients ticket serving s.views
  -- what each place knows is true of the log
  pub each : (j : ℕ) (v : PlaceView) → get_elem? s.views j ≡ some v → Known start clients serving log v
  pub home : AtHome start.trace log s.homes s.views ⊎ IsOut s.homes s.views
