-- What `explain` prints of two requests that wait for each other. `r` is the trace's recording, `a` the earlier request,
-- `b` the later one, and `P` the events of a schedule. All notions here are this project's own.
use Rattle.std.specs.Prelude.{◌≡◌, ◌⊎◌, ◌↔◌, ℕ, ◌<◌, Bool, List, [], ◌++◌, AllPairs, Some, length, codes, decimal}
use Rattle.rapid_text.specs.Canonical.{name_at}
use Rattle.rapid_text.specs.Recording.{Recording}
use Rattle.rapid_text.specs.declared.event.Op.TheVariants.{Acquire}
use Rattle.event_index.specs.Events.{op_at}
use Rattle.must_order.specs.Held.{IsGuard, IsHeldFrom}
use Rattle.must_order.specs.MustBefore.{IsForced}
use Rattle.explain_report.specs.Chains.{thread_name}
use Rattle.explain_report.specs.RunTexts.{AreRunsTold}
use Rattle.explain_report.specs.Runs.{run_total}
use Rattle.explain_report.specs.Verdicts.{count_text, forced_head, guarded_head, undecided_head}
use Rattle.lock_waits.specs.Waits.{WaitsFor}
use Rattle.deadlock_triage.specs.Findings.{AreOpen}
use Rattle.deadlock_triage.specs.declared.finding.Finding.{Finding}
use Rattle.deadlock_triage.specs.declared.finding.Finding.TheVariants.{Shown, Apart, Undecided}
use Rattle.deadlock_triage.specs.declared.outcomes.How.{How}
use Rattle.deadlock_triage.specs.declared.outcomes.How.TheVariants.{Ordered}
use Rattle.deadlock_report.specs.Texts.{how_words, request_text}

-- both requests, each after its number, with the locks that its thread holds
abbrev pub requests_text : Recording → ℕ → ℕ → List ℕ
requests_text r a b = decimal a ++ request_text r a b ++ decimal b ++ request_text r b a

-- the first line of a deadlock that a schedule of n events in this many runs shows
abbrev pub deadlock_head : How → ℕ → ℕ → List ℕ
deadlock_head how n runs =
    codes "deadlock" ++ how_words how ++ codes ": after " ++ count_text n (codes "event") ++ codes " in "
    ++ count_text runs (codes "run") ++ codes " each of 2 threads waits for the next\n"

-- the thread of request e waits for lock l
abbrev pub wait_words : Recording → ℕ → ℕ → List ℕ
wait_words r e l = thread_name r e ++ codes " waits for " ++ name_at r.locks l

-- the thread of request d holds it since event p
abbrev pub holder_words : Recording → ℕ → ℕ → List ℕ
holder_words r d p = codes ", which " ++ thread_name r d ++ codes " holds since " ++ decimal p ++ codes "\n"

-- the line of both
abbrev pub wait_line : Recording → ℕ → ℕ → ℕ → ℕ → List ℕ
wait_line r e d l p = wait_words r e l ++ holder_words r d p

-- The text says for which lock the thread of request e waits, and since when the thread of request d holds it. It is
-- empty if e does not wait for d.
abbrev pub IsWaitTold : Recording → ℕ → ℕ → List ℕ → Type 0
IsWaitTold r e d text =
    ((l p : ℕ) × (op_at r.events e ≡ Some (Acquire l)) × IsHeldFrom r.events d l p × (text ≡ wait_line r e d l p))
    ⊎ ((¬ WaitsFor r.events e d) × (text ≡ []))

-- what follows the runs: for whom each thread waits
abbrev pub AreWaitsTold : Recording → ℕ → ℕ → List ℕ → Type 0
AreWaitsTold r a b text = (one other : List ℕ) × IsWaitTold r a b one × IsWaitTold r b a other × (text ≡ one ++ other)

-- the runs of the schedule, and then for whom each thread waits
abbrev pub IsEndTold : Recording → List ℕ → ℕ → ℕ → Bool → List ℕ → Type 0
IsEndTold r P a b all text = (runs waits : List ℕ) × AreRunsTold r P all runs × AreWaitsTold r a b waits × (text ≡ runs ++ waits)

-- a deadlock that the schedule shows
abbrev pub IsShownTold : Recording → List ℕ → ℕ → ℕ → Bool → List ℕ → Type 0
IsShownTold r P a b all text =
    (how : How) × (rest : List ℕ) × ((how ≡ Ordered) ↔ AllPairs ◌<◌ P) × IsEndTold r P a b all rest
    × (text ≡ deadlock_head how (length P) (run_total r P) ++ requests_text r a b ++ rest)

-- Why the two are apart: both threads hold one lock, or one request comes before the other in every correct reordering,
-- or another reason.
abbrev pub IsReason : Recording → ℕ → ℕ → List ℕ → Type 0
IsReason r a b text =
    ((l : ℕ) × IsGuard r a b l × (text ≡ guarded_head r l))
    ⊎ (IsForced r.events a b × (text ≡ forced_head a b))
    ⊎ (text ≡ codes "apart: no correct reordering leads to both requests\n")

-- neither order nor a lock forbids a schedule that shows both, and the text says so
abbrev pub IsUndecidedTold : Recording → ℕ → ℕ → List ℕ → Type 0
IsUndecidedTold r a b text = AreOpen r.events a b × (text ≡ undecided_head ++ requests_text r a b)

-- the text of what is known of the two requests
abbrev pub IsDeadlockTold : Recording → Finding → ℕ → ℕ → Bool → List ℕ → Type 0
IsDeadlockTold r (Shown s) a b all text = IsShownTold r s.events a b all text
IsDeadlockTold r Apart a b all text = (reason : List ℕ) × IsReason r a b reason × (text ≡ reason ++ requests_text r a b)
IsDeadlockTold r Undecided a b all text = IsUndecidedTold r a b text
