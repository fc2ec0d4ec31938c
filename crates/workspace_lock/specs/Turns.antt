-- What a client has seen of the log, and which logs it may see. Clauses of callers cite this page, `Seating` and
-- `Runs`. `Places`, `Rule`, `Steps` and `Rows` belong to the lock alone. All notions here are this project's own.
use Rattle.std.specs.Prelude.{◌≡◌, ℕ, ◌<◌, ◌≤◌, List, ◌++◌}
use Rattle.std.specs.List.{All}
use mathlib.Core.List.{IsPrefix}
use Rattle.inverse_log.specs.declared.entry.Entry.{Entry}
use Rattle.inverse_log.specs.Answer.{IsLegal}
use Rattle.inverse_log.specs.Log.{Benched, own_entries, client_of}

-- the part of the log that a client has seen, the bench at the opening, and the number of clients
pub record Mark : Type 0 where
  pub start : Benched
  pub clients : ℕ
  pub number : ℕ
  pub seen : List Entry

-- the mark with these four parts
abbrev pub mark : Benched → ℕ → ℕ → List Entry → Mark
mark start clients number seen = record { start = start; clients = clients; number = number; seen = seen }

-- the entry belongs to a client with a seat
abbrev pub HasSeat : ℕ → Entry → Type 0
HasSeat clients e = (0 < client_of e) × (client_of e ≤ clients)

-- The log begins with `first`, and the entries after it belong to clients with a seat.
abbrev pub Past : List Entry → ℕ → List Entry → Type 0
Past first clients log = (rest : List Entry) × (first ++ rest ≡ log) × All (HasSeat clients) rest

-- What a seat can rely on. The log is legal and begins with the log at the opening. All entries after it belong to
-- clients with a seat. The log begins with what the client had seen, and has no other entries of that client.
pub record Sees (m : Mark) (log : List Entry) : Type 0 where
  pub legal : IsLegal m.start.trace log
  pub past : Past m.start.log m.clients log
  pub begins : IsPrefix m.seen log
  pub same : own_entries log m.number ≡ own_entries m.seen m.number
