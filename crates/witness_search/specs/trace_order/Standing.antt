-- The state of a search by counts, as the code keeps it. No public clause cites this module.
use Rattle.std.specs.Prelude.{◌≡◌, ℕ, ◌+◌, ◌++◌, ◌∷◌, [], nat_eq, Bool, List, length, slice_get, slice_index, Option, Some, None}
use Rattle.std.specs.HashMap.{get}
use Rattle.rapid_text.specs.Recording.{Recording}
use Rattle.event_index.specs.Least.{IsLeastOf}
use Rattle.event_index.specs.Lookups.{events_of, last_write}
use Rattle.schedule.specs.Reordering.{StandsAfterThread}
use Rattle.schedule.specs.Refusals.{refusal_of}
use Rattle.schedule.specs.Shows.{does_show}
use Rattle.witness_search.specs.Greedy.{after_steps, first_shown, next_step}
use Rattle.witness_search.specs.Searches.{IsStepOf, is_step, marked_events}
use Rattle.witness_search.specs.trace_order.Counting.{IsAt, IsFree, IsKept, counted_events, marks_of}
use Rattle.witness_search.specs.trace_order.Rows.{row_in, row_of}
use Rattle.witness_search.specs.declared.trace_order.enabling.Aim.{Aim}
use Rattle.witness_search.specs.declared.trace_order.enabling.Reached.{Reached}

-- the events that the search starts from
abbrev pub start_of : Recording → Aim → List ℕ
start_of r aim = counted_events r.events (row_of aim.start)

-- the state of the search is the list P
abbrev pub HasCome : Recording → Aim → Reached → List ℕ → Type 0
HasCome r aim reached P = IsAt r.events (row_of aim.start) (row_of reached.row) (get nat_eq reached.last) P

-- Q holds for each list that may be the state of the search
abbrev pub AtAny : Recording → Aim → Reached → (List ℕ → Type 0) → Type 0
AtAny r aim reached Q = (P : List ℕ) → HasCome r aim reached P → Q P

-- Q holds for each list that the row counts, regardless of the start and the notes
abbrev pub AtRow : Recording → List ℕ → (List ℕ → Type 0) → Type 0
AtRow r row Q =
    (P : List ℕ) (start : ℕ → ℕ) (last : ℕ → Option (Option ℕ)) → IsAt r.events start (row_in row) last P → Q P

-- whether P shows the pair
abbrev pub does_show_pair : Recording → Aim → List ℕ → Bool
does_show_pair r aim P = does_show r.events P aim.first aim.second

-- event e is enabled after P
abbrev pub MayCome : Recording → ℕ → List ℕ → Type 0
MayCome r e P = refusal_of r.events P e ≡ None

-- the operation of event e is possible after P
abbrev pub MayBeDone : Recording → ℕ → List ℕ → Type 0
MayBeDone r e P = IsFree r.events P e

-- P has all events of thread t, and its fork if it has one
abbrev pub HasEnded : Recording → ℕ → List ℕ → Type 0
HasEnded r t P = StandsAfterThread r.events P t

-- event e is the next of thread t
abbrev pub IsNextAt : Recording → Reached → ℕ → ℕ → Type 0
IsNextAt r reached t e = slice_get (events_of r.events t) (slice_index reached.row.items t) ≡ Some e

-- whether the search may take event e after P: it is wanted, neither of the pair, and enabled
abbrev pub is_added : Recording → Aim → ℕ → List ℕ → Bool
is_added r aim e P = is_step r.events aim.first aim.second (marks_of r.events (row_of aim.wanted)) P e

-- the answer is the least step of thread t after P, or None
abbrev pub IsLeastStep : Recording → Aim → ℕ → Option ℕ → List ℕ → Type 0
IsLeastStep r aim t answer P =
    IsLeastOf (IsStepOf r.events aim.first aim.second (marks_of r.events (row_of aim.wanted)) P t) answer

-- the wanted events
abbrev pub wanted_of : Recording → Aim → List ℕ
wanted_of r aim = marked_events r.events (marks_of r.events (row_of aim.wanted))

-- the step that the search takes after P
abbrev pub step_after : Recording → Aim → List ℕ → Option ℕ
step_after r aim P = next_step r.events aim.first aim.second (wanted_of r aim) P

-- the list that the search finds with at most `steps` steps
abbrev pub found_within : Recording → Aim → ℕ → Option (List ℕ)
found_within r aim steps = first_shown r.events aim.first aim.second (wanted_of r aim) (start_of r aim) steps

-- the state of the search is the list that it finds
abbrev pub HasFound : Recording → Aim → Reached → ℕ → Type 0
HasFound r aim reached steps = (P : List ℕ) × HasCome r aim reached P × (found_within r aim steps ≡ Some P)

-- of `steps` steps, `left` are not taken; each step that is taken adds one event to the list
abbrev pub LeavesSteps : Recording → Aim → ℕ → ℕ → Type 0
LeavesSteps r aim steps left =
    length (after_steps r.events aim.first aim.second (wanted_of r aim) (start_of r aim) steps) + left
    ≡ length (start_of r aim) + steps

-- event e is taken: if the state was P, after which e is enabled, it is now P with e
abbrev pub HasStepped : Recording → ℕ → Reached → Reached → Type 0
HasStepped r e old new =
    (P : List ℕ) (start : ℕ → ℕ)
    → IsAt r.events start (row_of old.row) (get nat_eq old.last) P
    → refusal_of r.events P e ≡ None
    → IsAt r.events start (row_of new.row) (get nat_eq new.last) (P ++ e ∷ [])

-- the answer is the last write of the variable, for each list that may be the state of the search
abbrev pub IsLastWrite : Recording → Aim → Reached → ℕ → Option ℕ → Type 0
IsLastWrite r aim reached x answer =
    (P : List ℕ) (row : ℕ → ℕ)
    → IsAt r.events (row_of aim.start) row (get nat_eq reached.last) P
    → answer ≡ last_write r.events x P

-- notes may be added for variables that the search looks at
abbrev pub KeepsNotes : Recording → Aim → (ℕ → Option (Option ℕ)) → (ℕ → Option (Option ℕ)) → Type 0
KeepsNotes r aim last next = IsKept r.events (row_of aim.start) last next
