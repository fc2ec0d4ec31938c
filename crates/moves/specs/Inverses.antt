-- Steps of one row, in both directions, and when they can be taken: this project's own.
use Rattle.std.specs.Prelude.{◌≡◌, ◌<◌, ℕ, ◌==◌, Bool, true, false, List, [], ◌∷◌, ◌++◌, Option, Some, None, length, if◌then◌else◌}
use Rattle.std.specs.Option.{IfSome}
use Rattle.rapid_text.specs.Recording.{Recording}
use Rattle.schedule.specs.declared.refusal.Disabled.{Disabled}
use Rattle.schedule.specs.declared.refusal.SwapRefusal.{SwapRefusal}
use Rattle.schedule.specs.Refusals.{refusal_of}
use Rattle.schedule.specs.Reordering.{IsCorrectReordering}
use Rattle.schedule.specs.Scheduled.{Scheduled}
use Rattle.schedule.specs.Swaps.{exchanged, swap_refusal}
use Rattle.moves.specs.declared.row.Row.{Row}
use Rattle.moves.specs.declared.inverse.Step.{Step}
use Rattle.moves.specs.declared.inverse.Step.TheVariants.{Goes, Comes, Was, Loses, Gains, Exchanges}
use Rattle.moves.specs.Rows.{Rows, row_of, with_row, IsFree}
use Rattle.moves.specs.Moves.{front}

-- the schedule with these events instead of its own
abbrev pub with_list : Scheduled → List ℕ → Scheduled
with_list s P = record { trace = s.trace; events = P }

-- the schedule with the event appended, if nothing refuses it
abbrev pub gained : Scheduled → ℕ → Option Disabled → Option Scheduled
gained s e None = Some (with_list s (s.events ++ e ∷ []))
gained s e (Some cause) = None

-- the schedule with two neighbours exchanged, if nothing refuses it
abbrev pub restored : Scheduled → ℕ → Option SwapRefusal → Option Scheduled
restored s i None = Some (with_list s (exchanged s.events i))
restored s i (Some cause) = None

-- What a step makes of a schedule that stays. None means that the step cannot be taken.
abbrev pub stepped : Step → Scheduled → Option Scheduled
stepped Goes s = None
stepped (Comes r) s = None
stepped (Was t) s = Some t
stepped Loses s = if length s.events == 0 then None else Some (with_list s (front s.events))
stepped (Gains e) s = gained s e (refusal_of s.trace.events s.events e)
stepped (Exchanges i) s = restored s i (swap_refusal s.trace.events s.events i)

-- the row with this schedule, if there is one
abbrev pub in_row : Row → Option Scheduled → Option (Option Row)
in_row r None = None
in_row r (Some s) = Some (Some (record { birth = r.birth; schedule = s }))

-- What a step makes of a row or of no row. None means that the step cannot be taken.
abbrev pub turned : Step → Option Row → Option (Option Row)
turned Goes None = None
turned Goes (Some r) = Some None
turned (Comes r) None = Some (Some r)
turned (Comes r) (Some s) = None
turned step None = None
turned step (Some r) = in_row r (stepped step r.schedule)

-- the schedule of the row, if there is one, is a correct reordering of its trace
abbrev pub IsReordered : Option Row → Type 0
IsReordered o = IfSome o (λ (r : Row). IsCorrectReordering r.schedule.trace.events r.schedule.events)

-- the step turns the row after into the row before, and the row before has a correct reordering
abbrev pub Fits : Step → Option Row → Option Row → Type 0
Fits step before after = (turned step after ≡ Some before) × IsReordered before

-- the step can be taken at the row of x as it is now, and no other row has the birth that it brings
abbrev pub CanTurn : List ℕ → Step → Rows → Type 0
CanTurn x step W = (o : Option Row) × (turned step (row_of W x) ≡ Some o) × IsFree W x o

-- the row of x has taken the step, and no other row has changed
abbrev pub IsTurned : List ℕ → Step → Rows → Rows → Type 0
IsTurned x step W V = (o : Option Row) × (turned step (row_of W x) ≡ Some o) × (V ≡ with_row W x o)

-- whether the step adds a row or appends an event
abbrev pub wants_memory : Step → Bool
wants_memory (Comes r) = true
wants_memory (Gains e) = true
wants_memory step = false

-- whether the step keeps a row
abbrev pub is_change : Step → Bool
is_change Goes = false
is_change (Comes r) = false
is_change step = true

-- what the step adds is of the trace T
abbrev pub IsStepOf : Recording → Step → Type 0
IsStepOf T (Comes r) = r.schedule.trace ≡ T
IsStepOf T (Was s) = s.trace ≡ T
IsStepOf T step = Unit {0}

-- the birth of a row that the step adds is below n
abbrev pub IsStepBelow : ℕ → Step → Type 0
IsStepBelow n (Comes r) = r.birth < n
IsStepBelow n step = Unit {0}
