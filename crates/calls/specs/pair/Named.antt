-- Which pair of events two names mean: of two events these two, else the pair that `triage` reports on the accesses that the names mean. `r` is
-- a trace's recording, `one` and `other` say for each event whether a name means it, `a` is the earlier event, `b` the later. All notions here
-- are this project's own.
use Rattle.std.specs.Prelude.{◌≡◌, ◌⊎◌, ℕ, min, max, map, Bool, true, false, cond, List, length, slice_index, slice_index_or}
use Rattle.rapid_text.specs.Recording.{Recording}
use Rattle.event_index.specs.Lookups.{before}
use Rattle.event_index.specs.Relations.{IsConflicting}
use Rattle.race_groups.specs.Found.{HaveConflict}
use Rattle.race_groups.specs.Groups.{is_between}
use Rattle.race_triage.specs.Verdicts.{IsVerdict}
use Rattle.race_triage.specs.Limits.{usual_tries}
use Rattle.race_triage.specs.declared.verdicts.Verdict.{Verdict}
use Rattle.explain_report.specs.places.Accesses.{AreApart, HaveSeveral, HaveShared, IsAtOnePlace, flags_of}
use Rattle.explain_report.specs.declared.places.name.Name.{Name}
use Rattle.explain_report.specs.declared.places.name.Name.TheVariants.{Event, Place}

-- the mark of an event: 1 if the one name means it, 2 if only the other does, else 0
abbrev pub mark : Bool → Bool → ℕ
mark one other = cond one 1 (cond other 2 0)

-- the marks of all events
abbrev pub marks_of : List Bool → List Bool → List ℕ
marks_of one other = map (λ e. mark (slice_index_or one e false) (slice_index_or other e false)) (before (length one))

-- both names mean the same accesses
abbrev pub AreSame : List Bool → List Bool → Type 0
AreSame one other = (e : ℕ) → slice_index_or one e false ≡ slice_index_or other e false

-- The two marks of a pair. If both names mean the same accesses, both events have the first mark. Else no access is meant by both names, unless
-- a name is an event.
abbrev pub IsMeant : Bool → List Bool → List Bool → ℕ × ℕ → Type 0
IsMeant is_event one other marks =
    (AreSame one other × (marks ≡ (1, 1))) ⊎ ((¬ AreSame one other) × ((is_event ≡ true) ⊎ AreApart one other) × (marks ≡ (1, 2)))

-- both names mean some access, not the same ones, and none of the names is an event
abbrev pub AreMixed : Bool → List Bool → List Bool → Type 0
AreMixed is_event one other = (is_event ≡ false) × (¬ AreSame one other) × HaveShared one other

-- a and b are the pair of the verdict that `triage` has on the accesses with these marks, if it takes marks for places
pub record IsReported (r : Recording) (place : ℕ → ℕ) (marks : ℕ × ℕ) (a b : ℕ) : Type 0 where
  pub verdict : Verdict
  pub is : IsVerdict r place usual_tries true verdict
  pub between : is_between verdict.row.places.0 verdict.row.places.1 marks.0 marks.1 ≡ true
  pub first : a ≡ verdict.first
  pub second : b ≡ verdict.second

-- each name means accesses at one place, and the pair is reported on these accesses
pub record IsPlaced (r : Recording) (is_event : Bool) (one other : List Bool) (a b : ℕ) : Type 0 where
  pub one_place : IsAtOnePlace r one
  pub other_place : IsAtOnePlace r other
  pub marks : ℕ × ℕ
  pub meant : IsMeant is_event one other marks
  pub reported : IsReported r (slice_index (marks_of one other)) marks a b

-- a name means accesses at several places, or both names mean some of the same and not all; or no two of the accesses conflict
abbrev pub IsUnplaced : Recording → Bool → List Bool → List Bool → Type 0
IsUnplaced r is_event one other =
    HaveSeveral r one ⊎ HaveSeveral r other ⊎ AreMixed is_event one other
    ⊎ ((marks : ℕ × ℕ) × IsMeant is_event one other marks × ¬ HaveConflict r.events (slice_index (marks_of one other)) marks)

-- the same of the accesses that two names mean
abbrev pub ArePlaced : Recording → Bool → Name → Name → ℕ → ℕ → Type 0
ArePlaced r is_event one other a b = IsPlaced r is_event (flags_of r one) (flags_of r other) a b

abbrev pub AreUnplaced : Recording → Bool → Name → Name → Type 0
AreUnplaced r is_event one other = IsUnplaced r is_event (flags_of r one) (flags_of r other)

-- a and b conflict, and are the two events, the earlier first
pub record IsPairOf (r : Recording) (one other a b : ℕ) : Type 0 where
  pub first : a ≡ min one other
  pub second : b ≡ max one other
  pub conflict : IsConflicting r.events a b

-- a and b are the pair that the names mean
abbrev pub IsNamedPair : Recording → Name → Name → ℕ → ℕ → Type 0
IsNamedPair r (Event one) (Event other) a b = IsPairOf r one other a b
IsNamedPair r (Event one) (Place other) a b = ArePlaced r true (Event one) (Place other) a b
IsNamedPair r (Place one) (Event other) a b = ArePlaced r true (Event other) (Place one) a b
IsNamedPair r (Place one) (Place other) a b = ArePlaced r false (Place one) (Place other) a b

-- the names mean none
abbrev pub IsNoPair : Recording → Name → Name → Type 0
IsNoPair r (Event one) (Event other) = ¬ IsConflicting r.events (min one other) (max one other)
IsNoPair r (Event one) (Place other) = AreUnplaced r true (Event one) (Place other)
IsNoPair r (Place one) (Event other) = AreUnplaced r true (Event other) (Place one)
IsNoPair r (Place one) (Place other) = AreUnplaced r false (Place one) (Place other)
