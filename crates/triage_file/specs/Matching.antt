-- Which entry of a triage file is about a race. `r` is the trace's recording, and `numbers` has the number of each
-- event's location. All notions here are this project's own.
use Rattle.std.specs.Prelude.{◌≡◌, ℕ, ℤ, pos, ◌==◌, ◌&&◌, ◌||◌, nat_lt, not, Bool, true, false, cond, List, [], length, slice_get, slice_index, codes, decimal, bytes_eq, unsigned_abs, int_le, Option, Some, None, unwrap_or}
use Rattle.std.specs.List.{after_last, before_last, list_all, list_any}
use Rattle.rapid_text.specs.Canonical.{name_at}
use Rattle.rapid_text.specs.Recording.{Recording}
use Rattle.rapid_text.specs.declared.event.Event.{Event}
use Rattle.rapid_text.specs.declared.event.Op.{Op}
use Rattle.rapid_text.specs.declared.event.Op.TheVariants.{Read, Write}
use Rattle.event_index.specs.Lookups.{before}
use Rattle.race_groups.specs.Rows.{same_places}
use Rattle.race_triage.specs.Chosen.{is_known}
use Rattle.race_triage.specs.declared.verdicts.Outcome.{Outcome}
use Rattle.race_triage.specs.declared.verdicts.Outcome.TheVariants.{Race, Undecided, Apart}
use Rattle.race_triage.specs.declared.verdicts.Verdict.{Verdict}
use Rattle.explain_report.specs.places.Located.{location_at}
use Rattle.explain_report.specs.places.Places.{before_arrow, behind_arrow, call_function, is_colon, is_line}
use Rattle.toml.specs.Data.{Data, as_str}
use Rattle.toml.specs.View.{view}
use Rattle.toml.specs.declared.value.Value.{Value}
use Rattle.variable_names.specs.Names.{without_number}
use Rattle.triage_file.specs.Entries.{has, hides, list_of, number_at, said_at}

-- the path and the line of a place `PATH:LINE`; a place of another form is a path without a line
abbrev pub path_of : List ℕ → List ℕ
path_of place = cond (is_line place) (before_last is_colon place) place

abbrev pub line_of : List ℕ → List ℕ
line_of place = cond (is_line place) (after_last is_colon place) []

abbrev pub function_by : Option (List ℕ) → List ℕ
function_by None = []
function_by (Some calls) = call_function (before_arrow calls)

-- the function of an access at this location; empty if the location names none
abbrev pub function_of : List ℕ → List ℕ
function_of location = function_by (behind_arrow location)

-- the text is the number in decimal digits
abbrev pub is_number : ℤ → List ℕ → Bool
is_number z text = int_le (pos 0) z && bytes_eq (decimal (unsigned_abs z)) text

-- The number is that of the line. No number, or 0, fits a place without a line.
abbrev pub is_line_by : Option ℤ → List ℕ → Bool
is_line_by None line = length line == 0
is_line_by (Some z) line = is_number z line || (is_number z (codes "0") && length line == 0)

-- the entry names a function for its access n, and the entry has variables
abbrev pub has_function : Data → ℕ → Bool
has_function d n = nat_lt 0 (length (said_at (codes "functions") n d))

abbrev pub has_variables : Data → Bool
has_variables d = has (codes "variables") d

-- the function fits, if the entry names one
abbrev pub fits_function : Data → ℕ → List ℕ → Bool
fits_function d n location = not (has_function d n) || bytes_eq (said_at (codes "functions") n d) (function_of location)

-- the line fits; it need not if the entry names a function for this access, and variables
abbrev pub fits_line : Data → ℕ → List ℕ → Bool
fits_line d n location =
    (has_function d n && has_variables d) || is_line_by (number_at (codes "lines") n d) (line_of (before_arrow location))

-- an access at this location is the entry's access n, apart from its variable
abbrev pub is_side : Data → ℕ → List ℕ → Bool
is_side d n location =
    bytes_eq (said_at (codes "paths") n d) (path_of (before_arrow location)) && (fits_function d n location && fits_line d n location)

-- two accesses are those of the entry, in either order
abbrev pub are_sides : Data → List ℕ → List ℕ → Bool
are_sides d one other = (is_side d 0 one && is_side d 1 other) || (is_side d 0 other && is_side d 1 one)

abbrev pub name_by_op : Recording → Op → Option (List ℕ)
name_by_op r (Read x) = Some (name_at r.variables x)
name_by_op r (Write x) = Some (name_at r.variables x)
name_by_op r op = None

abbrev pub use_by : Recording → Option Event → Option (List ℕ)
use_by r None = None
use_by r (Some v) = name_by_op r v.op

-- the variable that event e accesses; None if it is not an access
abbrev pub use_at : Recording → ℕ → Option (List ℕ)
use_at r e = use_by r (slice_get r.events e)

-- the item is this variable, without the numbers of blocks and activations
abbrev pub is_same_name : List ℕ → Data → Bool
is_same_name name d = bytes_eq (without_number (unwrap_or (as_str d) [])) (without_number name)

-- the entry names this variable, without numbers
abbrev pub is_named : Data → List ℕ → Bool
is_named d name = list_any (is_same_name name) (list_of (codes "variables") d)

abbrev pub is_named_by : Data → Option (List ℕ) → Bool
is_named_by d None = true
is_named_by d (Some name) = is_named d name

-- event e is at the location with number p
abbrev pub is_at : List ℕ → ℕ → ℕ → Bool
is_at numbers p e = nat_lt e (length numbers) && slice_index numbers e == p

-- event e is not at location p, or is not an access, or accesses a variable that the entry names
abbrev pub is_free : Recording → List ℕ → Data → ℕ → ℕ → Bool
is_free r numbers d p e = not (is_at numbers p e) || is_named_by d (use_at r e)

-- the entry names the variable of every access at location p
abbrev pub are_named : Recording → List ℕ → Data → ℕ → Bool
are_named r numbers d p = list_all (is_free r numbers d p) (before (length r.events))

-- The entry has no variables, or it names the variable of every access at one of the two locations. Then it names the
-- variable of each race on the two.
abbrev pub fits_variables : Recording → List ℕ → Data → ℕ × ℕ → Bool
fits_variables r numbers d places =
    not (has_variables d) || (are_named r numbers d places.0 || are_named r numbers d places.1)

-- the entry is about the race of a verdict
abbrev pub is_match : Recording → List ℕ → Data → Verdict → Bool
is_match r numbers d v = are_sides d (location_at r v.first) (location_at r v.second) && fits_variables r numbers d v.row.places

abbrev pub is_race_by : Outcome → Bool
is_race_by (Race how events threads) = true
is_race_by (Undecided tried) = false
is_race_by Apart = false

-- the verdict is a race
abbrev pub is_race : Verdict → Bool
is_race v = is_race_by v.outcome

-- the entry leaves the race out
abbrev pub leaves_out : Recording → List ℕ → Verdict → Data → Bool
leaves_out r numbers v d = hides d && is_match r numbers d v

-- an entry leaves out the race of the verdict
abbrev pub leaves_out_any : Recording → List ℕ → List Value → Verdict → Bool
leaves_out_any r numbers es v = list_any (λ e. leaves_out r numbers v (view e)) es

-- the verdict is a race that an entry leaves out
abbrev pub is_triaged : Recording → List ℕ → List Value → Verdict → Bool
is_triaged r numbers es v = is_race v && leaves_out_any r numbers es v

-- an entry leaves out a race on the locations of the verdict
abbrev pub is_left_out : Recording → List ℕ → List Value → List Verdict → Verdict → Bool
is_left_out r numbers es vs v = list_any (λ w. is_triaged r numbers es w && same_places v.row.places w.row.places) vs

-- the verdict is a race, and the entry is about it
abbrev pub is_race_match : Recording → List ℕ → Data → Verdict → Bool
is_race_match r numbers d v = is_race v && is_match r numbers d v

-- the entry is about one of the races
abbrev pub is_met : Recording → List ℕ → List Verdict → Data → Bool
is_met r numbers vs d = list_any (is_race_match r numbers d) vs

-- a verdict is known now if it was known before, or if it passes this test
abbrev pub AreKnownToo : List (ℕ × ℕ) → List (ℕ × ℕ) → (Verdict → Bool) → Type 0
AreKnownToo old new test = (v : Verdict) → is_known (Some new) v ≡ (is_known (Some old) v || test v)
