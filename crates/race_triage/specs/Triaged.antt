-- What `triage` returns for a trace. `r` is the trace's recording.
use Rattle.std.specs.Prelude.{ℕ, List, All, slice_index}
use Rattle.rapid_text.specs.Recording.{Recording}
use Rattle.race_groups.specs.Found.{AreTooMany}
use Rattle.race_triage.specs.Places.{AreNumbers}
use Rattle.race_triage.specs.Texts.{AreTotalsIn}
use Rattle.race_triage.specs.Totals.{AreTotalsOf}
use Rattle.race_triage.specs.Verdicts.{AreAllTold, IsVerdict}
use Rattle.race_triage.specs.declared.places.Places.{Places}
use Rattle.race_triage.specs.declared.totals.Totals.{Totals}
use Rattle.race_triage.specs.declared.verdicts.Effort.{Effort}
use Rattle.race_triage.specs.Limits.{place_pair_limit}
use Rattle.race_triage.specs.declared.verdicts.Verdict.{Verdict}
use Rattle.race_triage.specs.declared.verdicts.Verdicts.{Verdicts}

-- these are verdicts on locations with these numbers, found with this effort
abbrev pub AreVerdictsAt : Recording → Places → Effort → List Verdict → Type 0
AreVerdictsAt r p effort vs = All (IsVerdict r (slice_index p.numbers.items) effort.tries effort.apart) vs

-- each conflicting pair of events has a verdict on its locations
abbrev pub AreAllToldAt : Recording → Places → List Verdict → Type 0
AreAllToldAt r p vs = AreAllTold r.events (slice_index p.numbers.items) vs

-- more than 1,048,576 pairs of locations have a conflicting pair of events
abbrev pub AreTooManyAt : Recording → Places → Type 0
AreTooManyAt r p = AreTooMany r.events (slice_index p.numbers.items) place_pair_limit

-- the same, for the verdicts and the locations that `triage` returns
abbrev pub AreVerdictsOf : Recording → Effort → Verdicts → Type 0
AreVerdictsOf r effort found = AreVerdictsAt r found.places effort found.verdicts.items

abbrev pub AreAllToldOf : Recording → Verdicts → Type 0
AreAllToldOf r found = AreAllToldAt r found.places found.verdicts.items

-- the counts of the verdicts are those of the whole trace
abbrev pub AreCountedOf : Recording → Verdicts → Type 0
AreCountedOf r found = (t : Totals) → AreTotalsIn r found t → AreTotalsOf r (slice_index found.places.numbers.items) t

-- more than 1,048,576 pairs of locations of the trace have a conflicting pair of events
abbrev pub IsCrowded : Recording → Type 0
IsCrowded r = (numbers : List ℕ) × AreNumbers r numbers × AreTooMany r.events (slice_index numbers) place_pair_limit
