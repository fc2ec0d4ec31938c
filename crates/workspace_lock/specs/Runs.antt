-- One call through a seat, and several calls. This project's own.
use Rattle.std.specs.Prelude.{◌≡◌, ℕ, ◌+◌, ◌<◌, length, List, [], ◌∷◌, Option, None, Some, Result, Ok, Err}
use Rattle.std.specs.Io.KnownBytes.{Appends}
use Rattle.inverse_log.specs.declared.entry.Entry.{Entry}
use Rattle.inverse_log.specs.declared.call.Call.{Call}
use Rattle.inverse_log.specs.declared.reply.Reply.{Reply}
use Rattle.inverse_log.specs.declared.refusal.Refusal.{Refusal}
use Rattle.inverse_log.specs.Answer.{Called}
use Rattle.inverse_log.specs.declared.refusal.SeatRefusal.{SeatRefusal}
use Rattle.inverse_log.specs.declared.refusal.SeatRefusal.TheVariants.{Bench as ByBench, SeatSpent}
use Rattle.workspace_lock.specs.Limits.{turn_limit}
use Rattle.workspace_lock.specs.Turns.{Sees}
use Rattle.workspace_lock.specs.Seating.{SeatView, mark_in}

-- The call was made at some legal log that the seat sees, and got the bench's answer. The seat has then seen the log
-- after the call.
abbrev pub RanAt : SeatView → Call → Result Reply Refusal → SeatView → Type 0
RanAt s call answered n =
    (s.turns < turn_limit)
    × ((log : List Entry) × Sees (mark_in s) log × Called s.site.start.trace log s.number call answered n.seen)
    × (n ≡ record s { turns = s.turns + 1; seen = n.seen })

-- one call: made in this way, or refused because the seat is spent, which changes nothing
abbrev pub Ran : SeatView → Call → Result Reply SeatRefusal → SeatView → Type 0
Ran s call (Ok reply) n = RanAt s call (Ok reply) n
Ran s call (Err (ByBench refusal)) n = RanAt s call (Err refusal) n
Ran s call (Err SeatSpent) n = (s.turns ≡ turn_limit) × (n ≡ s)

-- the steps that the gate of a call has passed: 1 and then 2, or none if the seat is spent
abbrev pub Passes : Result Reply SeatRefusal → Option (List ℕ) → Option (List ℕ) → Type 0
Passes (Ok reply) old new = Appends old new (1 ∷ 2 ∷ [])
Passes (Err (ByBench refusal)) old new = Appends old new (1 ∷ 2 ∷ [])
Passes (Err SeatSpent) old new = new ≡ old

-- What the gate of a call hears: no answer at step 1, and the answer of the call at step 2. `heard` says this of one
-- pass.
module _ {A : Type 0} (heard : A → A → ℕ → Option (Result Reply Refusal) → Type 0) where
  abbrev pub HearsOf : Result Reply Refusal → A → A → Type 0
  HearsOf answer old new = (held : A) × heard old held 1 None × heard held new 2 (Some answer)

  abbrev pub Hears : Result Reply SeatRefusal → A → A → Type 0
  Hears (Ok reply) old new = HearsOf (Ok reply) old new
  Hears (Err (ByBench refusal)) old new = HearsOf (Err refusal) old new
  Hears (Err SeatSpent) old new = new ≡ old

-- one look at the front: it is the length of a legal log that begins with all that the seat had seen
abbrev pub Fronted : SeatView → ℕ → SeatView → Type 0
Fronted s found n = Sees (mark_in s) n.seen × (found ≡ length n.seen) × (n ≡ record s { seen = n.seen })

-- the calls, one after another, with their answers
abbrev pub Runs : SeatView → List Call → List (Result Reply SeatRefusal) → SeatView → Type 0
Runs s [] [] n = n ≡ s
Runs s [] (a ∷ more) n = ⊥
Runs s (c ∷ cs) [] n = ⊥
Runs s (c ∷ cs) (a ∷ more) n = (m : SeatView) × Ran s c a m × Runs m cs more n
