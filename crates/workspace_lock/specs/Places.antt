-- The knowledge of a place at the lock, and how a call changes its place. Three words are used. A place is a seat's
-- handle at the table. Its `PlaceView` is what it knows; the table keeps this among its views, as the Value of the
-- type `View`. Its `PlaceState` is the view with the slots that the place has taken. All notions here are this
-- project's own.
use Rattle.std.specs.Prelude.{◌≡◌, ℕ, ◌+◌, ◌<◌, ◌≤◌, length, List, [], ◌∷◌, Option, Some, None}
use Rattle.atomic_table.specs.Seated.{TableId}
use Rattle.atomic_table.specs.Table.{Me}
use Rattle.atomic_table.specs.declared.shared.Seat.{Seat}
use Rattle.rapid_text.specs.Recording.{Recording}
use Rattle.inverse_log.specs.declared.entry.Entry.{Entry}
use Rattle.inverse_log.specs.Log.{Benched}
use Rattle.dependence.specs.Limits.{client_limit}
use Rattle.workspace_lock.specs.Limits.{turn_limit}
use Rattle.workspace_lock.specs.Turns.{Mark, mark, Sees}
use Rattle.workspace_lock.specs.Seating.{Site, SeatView, mark_in}

-- between two calls, or waiting with a ticket, or with the turn
pub data Stage : Type 0 where
  idle : Stage
  waits : ℕ → Stage
  holds : ℕ → Stage

-- A place of one client has one mark. A place that others were joined to has their marks too, and a place that was
-- joined to another has none. `turns` counts the tickets that it has drawn.
pub record PlaceView : Type 0 where
  pub marks : List Mark
  pub turns : ℕ
  pub stage : Stage

-- the view of a place after it was joined to another
abbrev pub blank : PlaceView
blank = record { marks = []; turns = 0; stage = idle }

-- a place's view, and the slots that it has taken
abbrev pub PlaceState : Type 0
PlaceState = Me (Option Benched) PlaceView

-- a place
abbrev pub PlaceAt : Type 0
PlaceAt = Seat (Option Benched) PlaceView

-- it is the same place at the same table, and P holds of its state
abbrev pub KeepsPlace : PlaceAt → PlaceAt → Type 0 → Type 0
KeepsPlace old new P = (new.table_id ≡ old.table_id) × (new.id ≡ old.id) × P

-- the bench with this trace and this log
abbrev pub bench_of : Recording → List Entry → Benched
bench_of trace log = record { trace = trace; log = log }

-- an empty trace, for the mark of a place that has none
abbrev pub no_recording : Recording
no_recording = record { events = []; threads = []; variables = []; locks = []; locations = [] }

-- the mark of a client after it has seen this log
abbrev pub saw : Mark → List Entry → Mark
saw m log = record m { seen = log }

-- the view of a place of one client
abbrev pub solo : Mark → ℕ → Stage → PlaceView
solo m turns stage = record { marks = m ∷ []; turns = turns; stage = stage }

-- the first mark; an empty one if there is none
abbrev pub first_mark : List Mark → Mark
first_mark [] = mark (bench_of no_recording []) 0 0 []
first_mark (m ∷ ms) = m

-- the mark of a place of one client
abbrev pub mark_of : PlaceView → Mark
mark_of v = first_mark v.marks

-- the ticket that the place has; 0 if it has none
abbrev pub ticket_in : Stage → ℕ
ticket_in idle = 0
ticket_in (waits t) = t
ticket_in (holds t) = t

-- the state of a place that has got the turn
abbrev pub on_turn : Mark → ℕ → ℕ → List Entry → PlaceState
on_turn k turns t log = (solo (saw k log) turns (holds t), (0, Some (bench_of k.start.trace log)) ∷ [])

-- the lock has three words and one slot
abbrev pub IsSized : TableId → Type 0
IsSized z = (z.words ≡ 3) × (z.slots ≡ 1)

-- the place has no ticket and no slot
abbrev pub IsResting : PlaceState → Type 0
IsResting m = m ≡ (solo (mark_of m.0) m.0.turns idle, [])

-- the place has the ticket t, which is not yet served, and no slot
abbrev pub IsWaiting : ℕ → PlaceState → Type 0
IsWaiting t m = m ≡ (solo (mark_of m.0) m.0.turns (waits t), [])

-- the place has the turn, and the bench is out of the slot
abbrev pub IsBusy : PlaceState → Type 0
IsBusy m = m ≡ (solo (mark_of m.0) m.0.turns (holds (ticket_in m.0.stage)), (0, None) ∷ [])

-- It is the turn of ticket t. The place has the turn and the slot, and has seen the whole log.
abbrev pub GotTurn : ℕ → PlaceState → PlaceState → Type 0
GotTurn t m n = (log : List Entry) × Sees (mark_of m.0) log × (n ≡ on_turn (mark_of m.0) m.0.turns t log)

-- The place drew a ticket, got its turn, and took the bench out of the slot. The client may see the bench's log.
abbrev pub TookBench : PlaceState → Benched → PlaceState → Type 0
TookBench m b n =
    (t : ℕ)
    × Sees (mark_of m.0) b.log
    × (b.trace ≡ (mark_of m.0).start.trace)
    × (n ≡ (solo (saw (mark_of m.0) b.log) (m.0.turns + 1) (holds t), (0, None) ∷ []))

-- the place published the log, and still has the turn
abbrev pub HasPublished : PlaceState → List Entry → PlaceState → Type 0
HasPublished m log n = n ≡ (solo (saw (mark_of m.0) log) m.0.turns (holds (ticket_in m.0.stage)), (0, None) ∷ [])

-- the place has seen the log, and has neither a ticket nor a slot
abbrev pub IsRested : PlaceState → List Entry → PlaceState → Type 0
IsRested m log n = n ≡ (solo (saw (mark_of m.0) log) m.0.turns idle, [])

-- the place read the front: it is the length of a log that the client may see
abbrev pub Looked : PlaceState → ℕ → PlaceState → Type 0
Looked m found n =
    (log : List Entry)
    × Sees (mark_of m.0) log
    × (found ≡ length log)
    × (n ≡ (solo (saw (mark_of m.0) log) m.0.turns idle, []))

-- the site of a mark at this lock
abbrev pub site_of : TableId → Mark → Site
site_of z m = record { table = z; start = m.start; clients = m.clients }

-- the seat that has this place, as a caller sees it
abbrev pub seat_view : TableId → PlaceState → SeatView
seat_view z m = record { site = site_of z (mark_of m.0); number = (mark_of m.0).number; turns = m.0.turns; seen = (mark_of m.0).seen }

-- this is the place of the seat, between two calls
abbrev pub IsPlaceOfSeat : SeatView → PlaceAt → Type 0
IsPlaceOfSeat s p =
    (p.table_id ≡ s.site.table)
    × IsSized p.table_id
    × (p.me ≡ (solo (mark_in s) s.turns idle, []))
    × (s.turns ≤ turn_limit)

-- the place of a seat between two calls
abbrev pub IsSeatOf : TableId → PlaceState → ℕ → ℕ → Type 0
IsSeatOf z m number turns =
    IsSized z
    × (m ≡ (solo (mark_of m.0) turns idle, []))
    × ((mark_of m.0).number ≡ number)
    × (0 < number)
    × (number ≤ client_limit)
    × (number ≤ (mark_of m.0).clients)
