-- What a place learns from each of its steps at the lock, and how places are cut off and joined. All notions here are
-- this project's own.
use Rattle.std.specs.Prelude.{◌≡◌, ◌≢◌, ℕ, ◌+◌, List, [], ◌∷◌, ◌++◌, length, take, drop, Option, Some}
use Rattle.std.specs.List.{All}
use Rattle.atomic_table.specs.Table.{Step}
use Rattle.inverse_log.specs.declared.entry.Entry.{Entry}
use Rattle.inverse_log.specs.Log.{Benched}
use Rattle.workspace_lock.specs.Turns.{Sees}
use Rattle.workspace_lock.specs.Places.{idle, waits, PlaceView, PlaceState, bench_of, saw, solo, mark_of, ticket_in, on_turn}

-- a step at a table whose slots hold a bench
abbrev At : Type 0
At = Step (Option Benched)

-- the place drew a ticket
abbrev pub drew : At → PlaceState → ℕ → PlaceState → Type 0
drew st m r n = n ≡ (record m.0 { turns = m.0.turns + 1; stage = waits r }, m.1)

-- The place read SERVING. If it is its own ticket, the place has the turn and the bench. Otherwise nothing has
-- changed.
abbrev pub watched : At → PlaceState → ℕ → PlaceState → Type 0
watched st m r n =
    (r ≡ ticket_in m.0.stage → (log : List Entry) × Sees (mark_of m.0) log × (n ≡ on_turn (mark_of m.0) m.0.turns r log))
    × (r ≢ ticket_in m.0.stage → n ≡ m)

-- FRONT grew by one, and the log is the one that the call names
abbrev pub published : List Entry → At → PlaceState → ℕ → PlaceState → Type 0
published log st m r n = n ≡ (solo (saw (mark_of m.0) log) m.0.turns m.0.stage, m.1)

-- the place read FRONT
abbrev pub fronted : At → PlaceState → ℕ → PlaceState → Type 0
fronted st m r n =
    (log : List Entry)
    × Sees (mark_of m.0) log
    × (r ≡ length log)
    × (n ≡ (solo (saw (mark_of m.0) log) m.0.turns m.0.stage, m.1))

-- at the end, the place with all marks has the turn at once, and the log is the last one
abbrev pub ended : At → PlaceState → ℕ → PlaceState → Type 0
ended st m r n =
    (log : List Entry)
    × All (λ k. Sees k log) m.0.marks
    × (n.1 ≡ (0, Some (bench_of (mark_of m.0).start.trace log)) ∷ [])

-- the place passed the turn on
abbrev pub passed : At → PlaceState → ℕ → PlaceState → Type 0
passed st m r n = n ≡ (record m.0 { stage = idle }, [])

-- the view that is left of a place after a cut
abbrev pub stays : PlaceView → PlaceView
stays v = record v { marks = drop 1 v.marks }

-- the view of the new place, which gets the first mark
abbrev pub goes_off : PlaceView → PlaceView
goes_off v = record { marks = take 1 v.marks; turns = 0; stage = idle }

-- the view of a place after another was joined to it
abbrev pub joined : PlaceView → PlaceView → PlaceView
joined v w = record { marks = v.marks ++ w.marks; turns = v.turns + w.turns; stage = v.stage }
