-- What a line says of an access: its place, thread, verb and variable. `r` is the trace's recording. All notions here are this project's
-- own.
use Rattle.std.specs.Prelude.{ℕ, ◌==◌, cond, List, [], length, slice_get, codes, Option, Some, None}
use Rattle.rapid_text.specs.Canonical.{name_at}
use Rattle.rapid_text.specs.Recording.{Recording}
use Rattle.rapid_text.specs.declared.event.Event.{Event}
use Rattle.rapid_text.specs.declared.event.Op.{Op}
use Rattle.rapid_text.specs.declared.event.Op.TheVariants.{Read, Write, Acquire, Release, Fork, Join}
use Rattle.explain_report.specs.places.Located.{location_at}
use Rattle.explain_report.specs.places.Places.{before_arrow}

-- what a thread does at an operation
abbrev pub verb : Op → List ℕ
verb (Read x) = codes "reads"
verb (Write x) = codes "writes"
verb (Acquire l) = codes "acquires"
verb (Release l) = codes "releases"
verb (Fork u) = codes "forks"
verb (Join u) = codes "joins"

-- the name of what it is done to
abbrev pub op_name : Recording → Op → List ℕ
op_name r (Read x) = name_at r.variables x
op_name r (Write x) = name_at r.variables x
op_name r (Acquire l) = name_at r.locks l
op_name r (Release l) = name_at r.locks l
op_name r (Fork u) = name_at r.threads u
op_name r (Join u) = name_at r.threads u

-- the place of a location: what comes before its calls, or a question mark
abbrev pub spot : List ℕ → List ℕ
spot location = cond (length (before_arrow location) == 0) (codes "?") (before_arrow location)

-- the place of event e
abbrev pub spot_at : Recording → ℕ → List ℕ
spot_at r e = spot (location_at r e)

abbrev pub thread_by : Recording → Option Event → List ℕ
thread_by r None = []
thread_by r (Some v) = name_at r.threads v.thread

-- the name of event e's thread
abbrev pub thread_at : Recording → ℕ → List ℕ
thread_at r e = thread_by r (slice_get r.events e)

abbrev pub verb_by : Option Event → List ℕ
verb_by None = []
verb_by (Some v) = verb v.op

-- what event e's thread does
abbrev pub verb_at : Recording → ℕ → List ℕ
verb_at r e = verb_by (slice_get r.events e)

abbrev pub name_by : Recording → Option Event → List ℕ
name_by r None = []
name_by r (Some v) = op_name r v.op

-- the name of the variable that event e accesses
abbrev pub variable_at : Recording → ℕ → List ℕ
variable_at r e = name_by r (slice_get r.events e)
