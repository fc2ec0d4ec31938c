-- The answer to a call after a log, and the log after the call. All notions here are this project's own. `T` is the
-- trace, `L` is the log.
use Rattle.std.specs.Prelude.{◌≡◌, ◌⊎◌, ◌≤◌, ◌&&◌, ℕ, Bool, true, false, List, [], ◌∷◌, ◌++◌, Option, Some, None, Result, Ok, Err, All, length, nat_le, nat_lt, slice_get, if◌then◌else◌}
use Rattle.dependence.specs.Limits.{client_limit}
use Rattle.inverse_log.specs.Limits.{entry_limit}
use Rattle.rapid_text.specs.Recording.{Recording}
use Rattle.schedule.specs.Faults.{first_fault}
use Rattle.schedule.specs.Shows.{does_show}
use Rattle.moves.specs.declared.refusal.MoveRefusal.{MoveRefusal}
use Rattle.moves.specs.declared.refusal.MoveRefusal.TheVariants.{NoSuchSchedule}
use Rattle.moves.specs.declared.command.Command.{Command}
use Rattle.moves.specs.Ages.{age}
use Rattle.moves.specs.Moves.{made_at}
use Rattle.moves.specs.declared.row.Row.{Row}
use Rattle.moves.specs.Batches.{applied_all}
use Rattle.moves.specs.Rows.{Rows, row_of, names_of}
use Rattle.inverse_log.specs.declared.call.Call.{Call}
use Rattle.inverse_log.specs.declared.call.Call.TheVariants.{Do, Batch as DoAll, Undo, UndoAt, Propose, Show, List as ListNames, Races}
use Rattle.inverse_log.specs.declared.entry.Entry.{Entry}
use Rattle.inverse_log.specs.declared.entry.Entry.TheVariants.{Did, Batch, Undid, Proposed}
use Rattle.inverse_log.specs.declared.refusal.Refusal.{Refusal}
use Rattle.inverse_log.specs.declared.refusal.Refusal.TheVariants.{Move, NothingToUndo, RestsOn, NotReordering, NotShown, LogFull, OutOfMemory, NoSuchEntry, NotOwn, NotLive, BadBatch, InBatch}
use Rattle.inverse_log.specs.declared.reply.Reply.{Reply}
use Rattle.inverse_log.specs.declared.reply.Reply.TheVariants.{Done, Undone, Proposed as ProposedAs, Shown, Listing, Shows}
use Rattle.inverse_log.specs.Log.{Benched, Live, client_of, is_own, live_at, board_of, rows_of, last_live, blocker_of, rests_on}
use Rattle.inverse_log.specs.Pairs.{shown_pairs}

-- If the log has 1,000,000 entries, a call that would add one is refused for that first.
abbrev pub limited : List Entry → Result Reply Refusal → Result Reply Refusal
limited L answer = if nat_lt (length L) entry_limit then answer else Err LogFull

-- the answer to a command, from what it makes of its row
abbrev pub done_or : ℕ → Result (Option Row) MoveRefusal → Result Reply Refusal
done_or n (Ok o) = Ok (Done n)
done_or n (Err why) = Err (Move why)

-- the answer to a batch, from the rows after it, or from its first refused command
abbrev pub all_done_or : ℕ → Result Rows (ℕ × MoveRefusal) → Result Reply Refusal
all_done_or n (Ok V) = Ok (Done n)
all_done_or n (Err p) = Err (InBatch p.0 p.1)

-- a batch has 1 to 64 commands
abbrev pub is_batch : List Command → Bool
is_batch D = nat_le 1 (length D) && nat_le (length D) 64

abbrev pub sized : List Command → Result Reply Refusal → Result Reply Refusal
sized D answer = if is_batch D then answer else Err BadBatch

-- the answer to an undo of e, from what blocks it
abbrev pub undone_or : ℕ → Live → Option Live → Result Reply Refusal
undone_or n e None = Ok (Undone n e.number)
undone_or n e (Some b) = Err (RestsOn b.number (rests_on e b))

-- an undo of the client's greatest live entry
abbrev pub undo_or : List Entry → Option Live → Result Reply Refusal
undo_or L None = Err NothingToUndo
undo_or L (Some e) = undone_or (length L) e (blocker_of L e)

-- an undo by number, from the live entry with that number, if there is one
abbrev pub undo_live_or : List Entry → Option Live → Result Reply Refusal
undo_live_or L None = Err NotLive
undo_live_or L (Some e) = undone_or (length L) e (blocker_of L e)

-- the same, after a check that the entry did commands of this client
abbrev pub undo_own_or : List Entry → ℕ → Bool → Result Reply Refusal
undo_own_or L k false = Err NotOwn
undo_own_or L k true = undo_live_or L (live_at L k)

-- the same, after a check that there is such an entry
abbrev pub undo_at_or : List Entry → ℕ → ℕ → Option Entry → Result Reply Refusal
undo_at_or L c k None = Err NoSuchEntry
undo_at_or L c k (Some e) = undo_own_or L k (is_own c (Some e))

-- the answer to a proposal, from the first index at which its list is no correct reordering
abbrev pub proposed_or : Recording → List Entry → ℕ → ℕ → List ℕ → Option ℕ → Result Reply Refusal
proposed_or T L a b P None =
    if does_show T.events P a b then Ok (ProposedAs (length L) (length (board_of T L))) else Err NotShown
proposed_or T L a b P (Some p) = Err (NotReordering p)

-- the answer if there is no such schedule
abbrev pub no_schedule : Result Reply Refusal
no_schedule = Err (Move NoSuchSchedule)

-- the answer to a look at a schedule, from its row
abbrev pub seen_or : (Row → Reply) → Option Row → Result Reply Refusal
seen_or look None = no_schedule
seen_or look (Some r) = Ok (look r)

-- the answer to the client's call, unless memory runs out
abbrev pub answer_of : Recording → List Entry → ℕ → Call → Result Reply Refusal
answer_of T L c (Do d) = limited L (done_or (length L) (made_at T (board_of T L) (age (length L) 0) d (rows_of T L)))
answer_of T L c (DoAll D) = limited L (sized D (all_done_or (length L) (applied_all T (board_of T L) (age (length L) 0) D (rows_of T L))))
answer_of T L c Undo = limited L (undo_or L (last_live L c))
answer_of T L c (UndoAt k) = limited L (undo_at_or L c k (slice_get L k))
answer_of T L c (Propose a b P) = limited L (proposed_or T L a b P (first_fault T.events P))
answer_of T L c (Show x) = seen_or (λ r. Shown r.schedule.events) (row_of (rows_of T L) x)
answer_of T L c ListNames = Ok (Listing (names_of (rows_of T L)))
answer_of T L c (Races x) = seen_or (λ r. Shows (shown_pairs T.events r.schedule.events)) (row_of (rows_of T L) x)

-- the entry that a reply to the call adds to the log, if it adds one
abbrev pub entry_of : ℕ → Call → Reply → List Entry
entry_of c (Do d) reply = Did c d ∷ []
entry_of c (DoAll D) reply = Batch c D ∷ []
entry_of c Undo (Undone n k) = Undid c k ∷ []
entry_of c (UndoAt j) (Undone n k) = Undid c k ∷ []
entry_of c (Propose a b P) reply = Proposed c a b P ∷ []
entry_of c call reply = []

-- the entry that the answer adds to the log, if it adds one
abbrev pub logged : ℕ → Call → Result Reply Refusal → List Entry
logged c call (Ok reply) = entry_of c call reply
logged c call (Err why) = []

-- the log after the client's call
abbrev pub log_after : Recording → List Entry → ℕ → Call → List Entry
log_after T L c call = L ++ logged c call (answer_of T L c call)

-- The logs that calls of clients 1 to 32 build from the empty one.
pub data IsLegal (T : Recording) : List Entry → Type 0 where
  starts : IsLegal T []
  goes_on : (L : List Entry) (c : ℕ) (call : Call) → 1 ≤ c → c ≤ client_limit → IsLegal T L → IsLegal T (log_after T L c call)

-- whether the call may run out of memory instead: if the answer is a reply, a proposal was judged, or a batch was begun
abbrev pub may_want : Result Reply Refusal → Bool
may_want (Ok reply) = true
may_want (Err (NotReordering p)) = true
may_want (Err NotShown) = true
may_want (Err (InBatch place why)) = true
may_want (Err why) = false

-- What a call answers, and the log that it leaves: the answer and the log after it. Or the call runs out of memory,
-- only if it may, and the log stays. A refused call leaves the log as it was.
abbrev pub Called : Recording → List Entry → ℕ → Call → Result Reply Refusal → List Entry → Type 0
Called T L c call (Ok reply) M = (answer_of T L c call ≡ Ok reply) × (M ≡ log_after T L c call)
Called T L c call (Err OutOfMemory) M = (may_want (answer_of T L c call) ≡ true) × (M ≡ L)
Called T L c call (Err why) M = (answer_of T L c call ≡ Err why) × (M ≡ L)

-- the log as it was, or with one more entry of this client
abbrev pub Grown : List Entry → ℕ → List Entry → Type 0
Grown L c M = (M ≡ L) ⊎ ((e : Entry) × (M ≡ L ++ e ∷ []) × (client_of e ≡ c))

-- all entries are this client's
abbrev pub IsAlone : ℕ → List Entry → Type 0
IsAlone c L = All (λ (e : Entry). client_of e ≡ c) L

-- the answer of a bench if client c looks at the schedule of this name
abbrev pub show_answer : Benched → ℕ → List ℕ → Result Reply Refusal
show_answer bench c x = answer_of bench.trace bench.log c (Show x)
