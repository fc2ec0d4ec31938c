-- What a command makes of the rows, or its first refusal. The commands and their refusals are this project's own. `T`
-- is the trace, `B` the board, `n` the birth of a new row.
use Rattle.std.specs.Prelude.{ℕ, ◌-◌, ◌==◌, List, [], ◌∷◌, ◌++◌, Option, Some, None, Result, Ok, Err, if◌then◌else◌, nat_le, length, take, slice_get}
use Rattle.rapid_text.specs.Recording.{Recording}
use Rattle.schedule.specs.declared.refusal.Disabled.{Disabled}
use Rattle.schedule.specs.declared.refusal.SwapRefusal.{SwapRefusal}
use Rattle.schedule.specs.Refusals.{refusal_of}
use Rattle.schedule.specs.Swaps.{exchanged, swap_refusal}
use Rattle.moves.specs.declared.row.Row.{Row}
use Rattle.moves.specs.declared.board.Proposal.{Proposal}
use Rattle.moves.specs.declared.command.Command.{Command}
use Rattle.moves.specs.declared.command.Command.TheVariants.{Fresh, Add, Back, Swap, Branch, Drop, Adopt}
use Rattle.moves.specs.declared.refusal.MoveRefusal.{MoveRefusal}
use Rattle.moves.specs.declared.refusal.MoveRefusal.TheVariants.{NoSuchSchedule, NameTaken, NoSuchProposal, NothingToRetract, Disabled as DisabledBy, Swap as SwapBy, TooShort}
use Rattle.moves.specs.Commands.{writes, reads}
use Rattle.moves.specs.Rows.{Rows, row_of, with_row}

-- a row of this birth with these events
abbrev pub new_row : Recording → ℕ → List ℕ → Row
new_row T n P = record { birth = n; schedule = record { trace = T; events = P } }

-- the row with these events instead of its own
abbrev pub with_events : Row → List ℕ → Row
with_events r P = record { birth = r.birth; schedule = record { trace = r.schedule.trace; events = P } }

-- all but the last event
abbrev pub front : List ℕ → List ℕ
front P = take (length P - 1) P

-- the row with the event appended, if nothing refuses it
abbrev pub added : Row → ℕ → Option Disabled → Result (Option Row) MoveRefusal
added r e None = Ok (Some (with_events r (r.schedule.events ++ e ∷ [])))
added r e (Some cause) = Err (DisabledBy cause)

-- the row with two neighbours exchanged, if nothing refuses it
abbrev pub swapped : Row → ℕ → Option SwapRefusal → Result (Option Row) MoveRefusal
swapped r i None = Ok (Some (with_events r (exchanged r.schedule.events i)))
swapped r i (Some cause) = Err (SwapBy cause)

-- the row with the events of a proposal, if the board has it
abbrev pub adopted : Row → Option Proposal → Result (Option Row) MoveRefusal
adopted r None = Err NoSuchProposal
adopted r (Some p) = Ok (Some (with_events r p.schedule.events))

-- What a command makes of the row that it writes, or its first refusal. None is no row. `mine` is the row of the
-- written name, `theirs` that of the name that the command reads. No other row matters.
abbrev pub made : Recording → List Proposal → ℕ → Command → Option Row → Option Row → Result (Option Row) MoveRefusal
made T B n (Fresh x) None theirs = Ok (Some (new_row T n []))
made T B n (Fresh x) (Some r) theirs = Err NameTaken
made T B n (Add x e) None theirs = Err NoSuchSchedule
made T B n (Add x e) (Some r) theirs = added r e (refusal_of T.events r.schedule.events e)
made T B n (Back x) None theirs = Err NoSuchSchedule
made T B n (Back x) (Some r) theirs =
    if length r.schedule.events == 0
    then Err NothingToRetract
    else Ok (Some (with_events r (front r.schedule.events)))
made T B n (Swap x i) None theirs = Err NoSuchSchedule
made T B n (Swap x i) (Some r) theirs = swapped r i (swap_refusal T.events r.schedule.events i)
made T B n (Branch x k to) mine None = Err NoSuchSchedule
made T B n (Branch x k to) (Some r) (Some s) = Err NameTaken
made T B n (Branch x k to) None (Some s) =
    if nat_le k (length s.schedule.events)
    then Ok (Some (new_row T n (take k s.schedule.events)))
    else Err TooShort
made T B n (Drop x) None theirs = Err NoSuchSchedule
made T B n (Drop x) (Some r) theirs = Ok None
made T B n (Adopt x p) None theirs = Err NoSuchSchedule
made T B n (Adopt x p) (Some r) theirs = adopted r (slice_get B p)

-- what the command makes of the written row at W
abbrev pub made_at : Recording → List Proposal → ℕ → Command → Rows → Result (Option Row) MoveRefusal
made_at T B n d W = made T B n d (row_of W (writes d)) (row_of W (reads d))

-- the rows with what was made under the name x
abbrev pub put_made : Rows → List ℕ → Result (Option Row) MoveRefusal → Result Rows MoveRefusal
put_made W x (Ok o) = Ok (with_row W x o)
put_made W x (Err why) = Err why

-- the rows after a command, or its first refusal
abbrev pub applied : Recording → List Proposal → ℕ → Command → Rows → Result Rows MoveRefusal
applied T B n d W = put_made W (writes d) (made_at T B n d W)
