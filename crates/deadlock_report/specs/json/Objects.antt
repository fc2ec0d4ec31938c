-- The JSON objects of deadlocks. `r` is the trace's recording. The members of an object are in the order of their names.
-- All notions here are this project's own.
use Rattle.std.specs.Prelude.{ℕ, List, [], ◌∷◌, ◌++◌, slice_get, codes, Option, Some, None}
use Rattle.rapid_text.specs.Canonical.{name_at}
use Rattle.rapid_text.specs.Recording.{Recording}
use Rattle.rapid_text.specs.declared.event.Event.{Event}
use Rattle.explain_report.specs.Causes.{lock_taken}
use Rattle.explain_report.specs.places.Located.{location_at}
use Rattle.serde_json.specs.Data.{Data, null, string, array, object, no_members, member}
use Rattle.serde_json.specs.View.{items_of}
use Rattle.triage_report.specs.json.Objects.{lock_names, text, whole}
use Rattle.triage_report.specs.lines.Accesses.{thread_at, variable_at}
use Rattle.deadlock_triage.specs.declared.outcomes.How.{How}
use Rattle.deadlock_triage.specs.declared.outcomes.How.TheVariants.{Ordered, Turned}
use Rattle.deadlock_triage.specs.declared.outcomes.Outcome.{Outcome}
use Rattle.deadlock_triage.specs.declared.outcomes.Outcome.TheVariants.{Deadlock, Undecided, Apart}
use Rattle.deadlock_triage.specs.declared.outcomes.Verdict.{Verdict}
use Rattle.deadlock_report.specs.Holds.{other_locks, since_at}
use Rattle.deadlock_report.specs.declared.counts.Counts.{Counts}

-- the counts of the trace and of all verdicts
abbrev pub counts_object : Counts → Data
counts_object c =
    object
    (member (codes "apart") (whole c.apart)
    (member (codes "deadlocks") (whole c.deadlocks)
    (member (codes "events") (whole c.events)
    (member (codes "kind") (string (codes "counts"))
    (member (codes "nested") (whole c.nested)
    (member (codes "patterns") (whole c.patterns)
    (member (codes "threads") (whole c.threads)
    (member (codes "undecided") (whole c.undecided)
    (member (codes "whole") (whole c.whole)
    no_members)))))))))

-- lock l, which is held since event p
abbrev pub hold_object : Recording → ℕ → ℕ → Data
hold_object r l p =
    object
    (member (codes "event") (whole p)
    (member (codes "location") (text (location_at r p))
    (member (codes "lock") (text (name_at r.locks l))
    no_members)))

abbrev pub since_data : Recording → ℕ → Option ℕ → Data
since_data r l None = null
since_data r l (Some p) = hold_object r l p

-- since when event e's thread holds the lock; null if it does not hold it before e
abbrev pub hold_data : Recording → ℕ → Option ℕ → Data
hold_data r e None = null
hold_data r e (Some l) = since_data r l (since_at r e l)

-- request e, with the lock that is waited for, and with the other locks
abbrev pub request_object : Recording → ℕ → Data → Data → Data
request_object r e hold holds =
    object
    (member (codes "event") (whole e)
    (member (codes "hold") hold
    (member (codes "holds") holds
    (member (codes "location") (text (location_at r e))
    (member (codes "lock") (text (variable_at r e))
    (member (codes "thread") (text (thread_at r e))
    no_members))))))

-- the same, if the other request waits for this lock
abbrev pub told_request : Recording → ℕ → Option ℕ → Data
told_request r e wanted = request_object r e (hold_data r e wanted) (lock_names r (other_locks r e wanted))

abbrev pub request_by : Recording → ℕ → ℕ → Option Event → List Data
request_by r e d None = []
request_by r e d (Some v) = told_request r e (lock_taken r.events d) ∷ []

-- Request e, and the locks that its thread holds: `hold` is the one that request d waits for. Nothing if there is no
-- such event.
abbrev pub request_at : Recording → ℕ → ℕ → List Data
request_at r e d = request_by r e d (slice_get r.events e)

-- the two requests of a verdict, the earlier first
abbrev pub requests : Recording → Verdict → Data
requests r v = array (items_of (request_at r v.first v.second ++ request_at r v.second v.first))

abbrev pub how_word : How → List ℕ
how_word Ordered = codes "ordered"
how_word Turned = codes "turned"

-- a deadlock that a schedule of `events` events of `threads` threads shows
abbrev pub deadlock_object : How → ℕ → ℕ → Data → Data
deadlock_object how events threads both =
    object
    (member (codes "events") (whole events)
    (member (codes "how") (string (how_word how))
    (member (codes "kind") (string (codes "deadlock"))
    (member (codes "requests") both
    (member (codes "threads") (whole threads)
    no_members)))))

-- a pattern that is undecided after `tried` tries
abbrev pub undecided_object : ℕ → Data → Data
undecided_object tried both =
    object
    (member (codes "kind") (string (codes "undecided"))
    (member (codes "requests") both
    (member (codes "tried") (whole tried)
    no_members)))

-- a pattern that is apart
abbrev pub apart_object : Data → Data
apart_object both =
    object
    (member (codes "kind") (string (codes "apart"))
    (member (codes "requests") both
    no_members))

-- the object of an outcome, with `both` for its requests
abbrev pub outcome_object : Outcome → Data → Data
outcome_object (Deadlock how events threads) both = deadlock_object how events threads both
outcome_object (Undecided tried) both = undecided_object tried both
outcome_object Apart both = apart_object both

-- the object of a verdict
abbrev pub verdict_object : Recording → Verdict → Data
verdict_object r v = outcome_object v.outcome (requests r v)
