-- The JSON objects for what was found. `r` is the trace's recording. The members of an object are in the order of their names. All notions
-- here are this project's own.
use Rattle.std.specs.Prelude.{ℕ, List, [], ◌∷◌, ◌++◌, map, slice_get, slice_index_or, codes, Option, Some, None}
use Rattle.std.specs.Str.Lossy.{utf8_lossy}
use Rattle.rapid_text.specs.Canonical.{name_at}
use Rattle.rapid_text.specs.Recording.{Recording}
use Rattle.rapid_text.specs.declared.event.Event.{Event}
use Rattle.rapid_text.specs.declared.event.Op.{Op}
use Rattle.rapid_text.specs.declared.event.Op.TheVariants.{Read, Write, Acquire, Release, Fork, Join}
use Rattle.serde_json.specs.Data.{Data, number, unsigned, string, array, object, no_members, member}
use Rattle.serde_json.specs.View.{items_of}
use Rattle.race_triage.specs.Texts.{held_locks, pairs_by}
use Rattle.explain_report.specs.declared.verdict.How.{How}
use Rattle.explain_report.specs.declared.verdict.How.TheVariants.{Candidate, Beyond, Turned}
use Rattle.race_triage.specs.declared.totals.Totals.{Totals}
use Rattle.race_triage.specs.declared.verdicts.Outcome.{Outcome}
use Rattle.race_triage.specs.declared.verdicts.Outcome.TheVariants.{Race, Undecided, Apart}
use Rattle.race_triage.specs.declared.verdicts.Verdict.{Verdict}
use Rattle.triage_report.specs.declared.json.accesses.Names.{Names}

-- a number
abbrev pub whole : ℕ → Data
whole n = number (unsigned n)

-- bytes of the trace as a text: what is no UTF-8 becomes U+FFFD
abbrev pub text : List ℕ → Data
text bytes = string (utf8_lossy bytes)

-- the counts of the whole trace
abbrev pub counts_object : Totals → Data
counts_object t =
    object
    (member (codes "apart") (whole t.apart)
    (member (codes "candidates") (whole t.candidates)
    (member (codes "events") (whole t.events)
    (member (codes "forced") (whole t.forced)
    (member (codes "guarded") (whole t.guarded)
    (member (codes "kind") (string (codes "counts"))
    (member (codes "open") (whole t.open_pairs)
    (member (codes "pairs") (whole t.pairs)
    (member (codes "places") (whole t.places)
    (member (codes "races") (whole t.races)
    (member (codes "threads") (whole t.threads)
    (member (codes "undecided") (whole t.undecided)
    no_members))))))))))))

-- how many verdicts were left out, and why
abbrev pub left_out_object : List ℕ → ℕ → Data
left_out_object kind n =
    object
    (member (codes "count") (whole n)
    (member (codes "kind") (string kind)
    no_members))

-- the word for an operation
abbrev pub op_word : Op → List ℕ
op_word (Read x) = codes "r"
op_word (Write x) = codes "w"
op_word (Acquire l) = codes "acq"
op_word (Release l) = codes "rel"
op_word (Fork u) = codes "fork"
op_word (Join u) = codes "join"

-- the name of what it is done to
abbrev pub op_name : Recording → Op → List ℕ
op_name r (Read x) = name_at r.variables x
op_name r (Write x) = name_at r.variables x
op_name r (Acquire l) = name_at r.locks l
op_name r (Release l) = name_at r.locks l
op_name r (Fork u) = name_at r.threads u
op_name r (Join u) = name_at r.threads u

-- the names of the locks, as a list
abbrev pub lock_names : Recording → List ℕ → Data
lock_names r ls = array (items_of (map (λ l. text (name_at r.locks l)) ls))

-- an access with these names, at a location, before which its thread holds the locks that are named
abbrev pub access_object : ℕ → Data → List ℕ → List ℕ → List ℕ → List ℕ → Data
access_object event holds location operation thread variable =
    object
    (member (codes "event") (whole event)
    (member (codes "holds") holds
    (member (codes "location") (text location)
    (member (codes "operation") (string operation)
    (member (codes "thread") (text thread)
    (member (codes "variable") (text variable)
    no_members))))))

-- the same with these names
abbrev pub named_object : Names → Data → Data
named_object n holds = access_object n.event holds n.location.now n.operation.now n.thread.now n.variable.now

abbrev pub access_by : Recording → ℕ → Option Event → List Data
access_by r e None = []
access_by r e (Some v) =
    access_object e (lock_names r (held_locks r e)) (slice_index_or r.locations e []) (op_word v.op) (name_at r.threads v.thread) (op_name r v.op) ∷ []

-- event e as an access; nothing if there is no such event
abbrev pub access_at : Recording → ℕ → List Data
access_at r e = access_by r e (slice_get r.events e)

-- the two accesses of a pair, as a list
abbrev pub accesses : Recording → ℕ → ℕ → Data
accesses r a b = array (items_of (access_at r a ++ access_at r b))

abbrev pub how_word : How → List ℕ
how_word Candidate = codes "candidate"
how_word Beyond = codes "beyond"
how_word Turned = codes "turned"

-- a race that a schedule of `events` events of `threads` threads shows; it has `pairs` pairs and `variables` variables
abbrev pub race_object : How → ℕ → ℕ → ℕ → ℕ → Data → Data
race_object how events threads pairs variables both =
    object
    (member (codes "accesses") both
    (member (codes "events") (whole events)
    (member (codes "how") (string (how_word how))
    (member (codes "kind") (string (codes "race"))
    (member (codes "pairs") (whole pairs)
    (member (codes "threads") (whole threads)
    (member (codes "variables") (whole variables)
    no_members)))))))

-- what is undecided after `tried` tries
abbrev pub undecided_object : ℕ → ℕ → ℕ → Data → Data
undecided_object tried pairs variables both =
    object
    (member (codes "accesses") both
    (member (codes "kind") (string (codes "undecided"))
    (member (codes "pairs") (whole pairs)
    (member (codes "tried") (whole tried)
    (member (codes "variables") (whole variables)
    no_members)))))

-- what is apart
abbrev pub apart_object : ℕ → Data → Data
apart_object pairs both =
    object
    (member (codes "accesses") both
    (member (codes "kind") (string (codes "apart"))
    (member (codes "pairs") (whole pairs)
    no_members)))

abbrev pub outcome_object : Outcome → ℕ → ℕ → Data → Data
outcome_object (Race how events threads) pairs variables both = race_object how events threads pairs variables both
outcome_object (Undecided tried) pairs variables both = undecided_object tried pairs variables both
outcome_object Apart pairs variables both = apart_object pairs both

-- the object of a verdict, with `both` for its accesses
abbrev pub told_object : Verdict → Data → Data
told_object v both = outcome_object v.outcome (pairs_by v.outcome v.row.counts) v.variables both

-- the object of a verdict
abbrev pub verdict_object : Recording → Verdict → Data
verdict_object r v = told_object v (accesses r v.first v.second)
