-- The text of the chains that show why a pair is apart, and which of their links race. `r` is a recording, `T` its
-- events, `d` the depth of a chain. All notions here are this project's own.
use Rattle.std.specs.Prelude.{◌≡◌, ◌↔◌, ℕ, nat_lt, zero, suc, Bool, true, false, not, ◌&&◌, cond, List, [], ◌∷◌, ◌++◌, find, flat_map, slice_get, Option, Some, None, codes, decimal}
use Rattle.rapid_text.specs.Canonical.{name_at}
use Rattle.rapid_text.specs.Recording.{Recording}
use Rattle.rapid_text.specs.declared.event.Event.{Event}
use Rattle.rapid_text.specs.declared.event.Op.{Op}
use Rattle.rapid_text.specs.declared.event.Op.TheVariants.{Acquire}
use Rattle.trace_rules.specs.Rules.{IsDisciplined}
use Rattle.event_index.specs.Events.{op_at, thread_at}
use Rattle.event_index.specs.Lookups.{base_of}
use Rattle.event_index.specs.Relations.{is_conflict}
use Rattle.shb_clocks.specs.Candidates.{IsCandidate}
use Rattle.shb_clocks.specs.Known.{is_shb_before}
use Rattle.must_order.specs.declared.chains.Chain.{Chain}
use Rattle.must_order.specs.declared.chains.Reason.{Reason}
use Rattle.must_order.specs.declared.chains.Reason.TheVariants.{Later, Forked, Written, Joined, ForkJoined, Ended}
use Rattle.must_order.specs.declared.chains.Step.{Step}
use Rattle.explain_report.specs.EventLines.{numbered_line}

abbrev pub is_apart_from : List Event → ℕ → Option ℕ → Bool
is_apart_from T a None = true
is_apart_from T a (Some c) = not (is_shb_before T a c)

-- whether a and b are a candidate, and a is the earlier
abbrev pub is_candidate : List Event → ℕ → ℕ → Bool
is_candidate T a b = is_conflict T a b && (nat_lt a b && is_apart_from T a (base_of T b))

-- the test decides candidates, in each trace that keeps the rules
abbrev pub CandidatesAreTold : Type 0
CandidatesAreTold = (T : List Event) → IsDisciplined T → (a b : ℕ) → (is_candidate T a b ≡ true) ↔ IsCandidate T a b

-- the note on a write and a read of what it wrote, if the two race
abbrev pub race_note : List Event → ℕ → ℕ → List ℕ
race_note T a b = cond (is_candidate T a b) (codes " (these two race: explain " ++ decimal a ++ codes " " ++ decimal b ++ codes ")") []

abbrev pub is_written : Reason → Bool
is_written Written = true
is_written _ = false

-- whether the step leads from a write to a read of what it wrote, and the two race
abbrev pub is_raced : List Event → Step → Bool
is_raced T s = is_written s.reason && is_candidate T s.from s.to

-- the steps of the chains
abbrev pub steps_of : List Chain → List Step
steps_of cs = flat_map (λ (c : Chain). c.steps.items) cs

-- the first such step of the chains
abbrev pub raced_step : List Event → List Chain → Option Step
raced_step T cs = find (is_raced T) (steps_of cs)

-- two blanks for each step of depth
unfoldable pub indent_text : ℕ → List ℕ
indent_text zero = []
indent_text (suc d) = codes "  " ++ indent_text d

abbrev pub line_by : Recording → ℕ → Option Event → List ℕ
line_by r e None = []
line_by r e (Some v) = numbered_line r e

-- the number of event e and its line; empty if there is no such event
abbrev pub line_at : Recording → ℕ → List ℕ
line_at r e = line_by r e (slice_get r.events e)

abbrev pub thread_by : Recording → Option ℕ → List ℕ
thread_by r None = []
thread_by r (Some t) = name_at r.threads t

-- the name of event e's thread
abbrev pub thread_name : Recording → ℕ → List ℕ
thread_name r e = thread_by r (thread_at r.events e)

abbrev pub lock_by : Recording → Option Op → List ℕ
lock_by r (Some (Acquire l)) = name_at r.locks l
lock_by r _ = []

-- the name of the lock that event e acquires
abbrev pub lock_name : Recording → ℕ → List ℕ
lock_name r e = lock_by r (op_at r.events e)

-- a section ends of the lock that event p acquires
abbrev pub ended_text : Recording → ℕ → List ℕ
ended_text r p = codes "  ends a section of " ++ lock_name r p ++ codes " that comes before the one of\n"

-- the reason why a step leads from a to b, as `IsReason` of must-before gives it
abbrev pub reason_text : Recording → ℕ → ℕ → Reason → List ℕ
reason_text r a b Later = codes "  and later in its thread\n"
reason_text r a b Forked = codes "  begins the thread of\n"
reason_text r a b Written = codes "  is read by" ++ race_note r.events a b ++ codes "\n"
reason_text r a b Joined = codes "  ends the thread that is joined by\n"
reason_text r a b ForkJoined = codes "  forks the thread that is joined by\n"
reason_text r a b (Ended p) = ended_text r p

-- the lines of a step: its reason, and the event to which it leads
abbrev pub step_text : Recording → ℕ → Step → List ℕ
step_text r d s = indent_text d ++ reason_text r s.from s.to s.reason ++ indent_text d ++ line_at r s.to

-- the lines of steps along one thread; the last one leads to this event
abbrev pub later_text : Recording → ℕ → Option ℕ → List ℕ
later_text r d None = []
later_text r d (Some e) = indent_text d ++ codes "  and later in its thread\n" ++ indent_text d ++ line_at r e

abbrev pub is_later : Reason → Bool
is_later Later = true
is_later _ = false

-- The lines of steps, after some along one thread that wait to be printed; the last waiting step leads to `later`.
-- Steps along one thread are printed as one.
unfoldable pub steps_text : Recording → ℕ → Option ℕ → List Step → List ℕ
steps_text r d later [] = later_text r d later
steps_text r d later (s ∷ ss) =
    cond (is_later s.reason) (steps_text r d (Some s.to) ss) (later_text r d later ++ step_text r d s ++ steps_text r d None ss)

-- With one step more, the lines go from `old` to `new`, and the last step that waits from `later` to `next`. So the
-- lines of further steps complete both alike.
abbrev pub GoesTo : Recording → ℕ → Option ℕ → Step → List ℕ → List ℕ → Option ℕ → Type 0
GoesTo r d later s old new next = (rest : List Step) → new ++ steps_text r d next rest ≡ old ++ steps_text r d later (s ∷ rest)

-- the lines of a chain
abbrev pub chain_text : Recording → ℕ → Chain → List ℕ
chain_text r d c = indent_text d ++ line_at r c.first ++ steps_text r d None c.steps.items

-- the word for the section in which the chain ends: its last event acquires the lock, or that event's thread holds it
abbrev pub holding : Bool → List ℕ
holding true = codes " takes "
holding false = codes " holds "

-- what a chain is for: the section where it begins began before the one where it ends
abbrev pub cause_text : Recording → ℕ → Chain → List ℕ → List ℕ
cause_text r d c words =
    indent_text d ++ codes "for " ++ thread_name r c.last ++ words ++ lock_name r c.first ++ codes " at " ++ decimal c.last
    ++ codes ", and that section began before:\n"
