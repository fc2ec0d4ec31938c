-- The accesses of a row, its rank and its size. All notions here are this project's own.
use Rattle.std.specs.Prelude.{ℕ, cond, List, [], Option, Some, None, codes}
use Rattle.serde_json.specs.Data.{Data}
use Rattle.race_parts.specs.Members.{access_in, is_kind, said_number, said_text}

abbrev pub location_by : Option Data → List ℕ
location_by None = []
location_by (Some d) = said_text (codes "location") d

abbrev pub location_in : ℕ → Data → List ℕ
location_in place d = location_by (access_in place d)

abbrev pub event_by : Option Data → ℕ
event_by None = 0
event_by (Some d) = said_number (codes "event") d

abbrev pub event_in : ℕ → Data → ℕ
event_in place d = event_by (access_in place d)

-- 0 for a race, 1 for an undecided row, 2 for any other row
abbrev pub rank_of : Data → ℕ
rank_of d = cond (is_kind (codes "race") d) 0 (cond (is_kind (codes "undecided") d) 1 2)

-- how many events the schedule of a race has; 0 for other rows
abbrev pub size_of : Data → ℕ
size_of d = cond (is_kind (codes "race") d) (said_number (codes "events") d) 0
