-- The ends of the cuts of SHB and of must-before. `T` is the events of a trace.
use Rattle.std.specs.Prelude.{◌≡◌, ℕ, cond, nat_lt, List, Option, Some, None}
use Rattle.rapid_text.specs.declared.event.Event.{Event}
use Rattle.event_index.specs.Lookups.{base_of, count_before}
use Rattle.shb_clocks.specs.HappensBefore.{IsShbBefore}
use Rattle.shb_clocks.specs.Known.{known_of}
use Rattle.shb_clocks.specs.SharedRows.{Counted, count_of}
use Rattle.race_groups.specs.Rows.{Part, by_part}

abbrev pub known_by : List Event → Option ℕ → ℕ → ℕ
known_by T None t = 0
known_by T (Some c) t = known_of T c t

-- the number of events of thread t that are SHB-before b's base, or are that base
abbrev pub known_before : List Event → ℕ → ℕ → ℕ
known_before T b t = known_by T (base_of T b) t

abbrev pub counted_by : Counted → Option ℕ → ℕ → ℕ
counted_by rows None t = 0
counted_by rows (Some c) t = cond (nat_lt t rows.width) (count_of rows c t) 0

-- the number of events of thread t that the row of b's base counts
abbrev pub counted_before : Counted → List Event → ℕ → ℕ → ℕ
counted_before rows T b t = counted_by rows (base_of T b) t

-- a cut before which no event comes
abbrev pub nothing : ℕ → ℕ → ℕ
nothing b t = 0

-- the ends of the cut below which a part counts
abbrev pub upper_of : List Event → Part → ℕ → ℕ → ℕ
upper_of T = by_part nothing (count_before T) (known_before T)

-- the ends of the cut below which a part does not count; the rows have the counts of must-before
abbrev pub lower_of : List Event → Counted → Part → ℕ → ℕ → ℕ
lower_of T rows = by_part nothing (known_before T) (counted_before rows T)

-- a is b's base, or SHB-before that base
abbrev pub IsKnownBefore : List Event → ℕ → ℕ → Type 0
IsKnownBefore T a b = (c : ℕ) × (base_of T b ≡ Some c) × IsShbBefore T a c
