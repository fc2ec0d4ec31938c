-- The accesses of a trace that a name means: the event with a number, or the accesses whose locations a word fits
-- best. `r` is the trace's recording. All notions here are this project's own.
use Rattle.std.specs.Prelude.{◌≡◌, ◌≢◌, ℕ, ◌==◌, ◌&&◌, nat_lt, min, map, Bool, true, false, cond, List, length, slice_index_or}
use Rattle.std.specs.List.{fold}
use Rattle.rapid_text.specs.Recording.{Recording}
use Rattle.rapid_text.specs.declared.event.Op.{Op}
use Rattle.rapid_text.specs.declared.event.Op.TheVariants.{Read, Write}
use Rattle.event_index.specs.Events.{passes_at}
use Rattle.event_index.specs.Lookups.{before}
use Rattle.explain_report.specs.places.Located.{location_at}
use Rattle.explain_report.specs.places.Names.{misfit}
use Rattle.explain_report.specs.places.Places.{before_arrow}
use Rattle.explain_report.specs.declared.places.name.Name.{Name}
use Rattle.explain_report.specs.declared.places.name.Name.TheVariants.{Event as Numbered, Place}

-- the operation reads or writes a variable
abbrev pub is_use : Op → Bool
is_use (Read x) = true
is_use (Write x) = true
is_use op = false

-- the misfit of the word and the location of event e; 3 if e is not an access
abbrev pub misfit_at : Recording → List ℕ → ℕ → ℕ
misfit_at r word e = cond (passes_at (λ v. is_use v.op) r.events e) (misfit word (location_at r e)) 3

-- the same of each event
abbrev pub misfits_of : Recording → List ℕ → List ℕ
misfits_of r word = map (misfit_at r word) (before (length r.events))

-- the least misfit of the list, at most 3, which means no fit
abbrev pub least_misfit : List ℕ → ℕ
least_misfit misfits = fold min 3 misfits

-- for each event, whether it is an access whose location the word fits, and fits none better
abbrev pub flags_of_place : Recording → List ℕ → List Bool
flags_of_place r word = map (λ m. nat_lt m 3 && m == least_misfit (misfits_of r word)) (misfits_of r word)

-- for each event, whether it has this number
abbrev pub flags_of_event : Recording → ℕ → List Bool
flags_of_event r number = map (λ e. e == number) (before (length r.events))

-- for each event whether the name means it
abbrev pub flags_of : Recording → Name → List Bool
flags_of r (Numbered number) = flags_of_event r number
flags_of r (Place word) = flags_of_place r word.now

-- the event has a flag
abbrev pub HasFlag : List Bool → ℕ → Type 0
HasFlag flags e = slice_index_or flags e false ≡ true

-- the place of event e
abbrev pub place_of : Recording → ℕ → List ℕ
place_of r e = before_arrow (location_at r e)

-- the events with a flag are at one place
abbrev pub IsAtOnePlace : Recording → List Bool → Type 0
IsAtOnePlace r flags = (d e : ℕ) → HasFlag flags d → HasFlag flags e → place_of r d ≡ place_of r e

-- two flagged events are at different places
pub record HaveSeveral (r : Recording) (flags : List Bool) : Type 0 where
  pub one : ℕ
  pub other : ℕ
  pub one_has : HasFlag flags one
  pub other_has : HasFlag flags other
  pub apart : place_of r one ≢ place_of r other

-- no event has both flags
abbrev pub AreApart : List Bool → List Bool → Type 0
AreApart one other = (e : ℕ) → HasFlag one e → ¬ HasFlag other e

-- one has both
abbrev pub HaveShared : List Bool → List Bool → Type 0
HaveShared one other = (e : ℕ) × HasFlag one e × HasFlag other e
