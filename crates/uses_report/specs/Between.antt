-- The table between two names. `r` is the recording of a trace; `ones` and `others` say of each event whether a name
-- means it. All notions here are this project's own.
use Rattle.std.specs.Prelude.{◌≡◌, ◌⊎◌, ◌↔◌, ℕ, ◌<◌, ◌||◌, Bool, true, false, List, length, map, nat_eq, nat_lt, ◌&&◌, slice_index, slice_index_or, ⊤}
use Rattle.std.specs.Cmp.Lexicographic.{pointwise}
use Rattle.rapid_text.specs.Recording.{Recording}
use Rattle.event_index.specs.Lookups.{before}
use Rattle.explain_report.specs.places.Accesses.{HaveSeveral, IsAtOnePlace, flags_of_place}
use Rattle.explain_report.specs.places.Located.{location_at}
use Rattle.explain_report.specs.declared.places.name.Name.{Name}
use Rattle.explain_report.specs.declared.places.name.Name.TheVariants.{Event, Place}
use Rattle.race_triage.specs.Places.{AreNumbers}
use Rattle.variable_uses.specs.Rows.{keys_of}
use Rattle.variable_uses.specs.Shared.{IsShared}
use Rattle.variable_uses.specs.Table.{AreColumns, holds_in}
use Rattle.variable_uses.specs.declared.uses.Uses.{Uses}
use Rattle.variable_uses.specs.declared.uses.UsesRefusal.{UsesRefusal}
use Rattle.variable_uses.specs.declared.uses.UsesRefusal.TheVariants.{OutOfMemory as RefusedMemory, TooMany as RefusedMany}
use Rattle.uses_report.specs.Texts.{uses_words}
use Rattle.uses_report.specs.declared.refusal.UsesFault.{UsesFault}
use Rattle.uses_report.specs.declared.refusal.UsesFault.TheVariants.{NoSuchPair, OutOfMemory, TooMany}

abbrev pub fault_of : UsesRefusal → UsesFault
fault_of RefusedMany = TooMany
fault_of RefusedMemory = OutOfMemory

-- whether both events have one location
abbrev pub have_one_location : Recording → ℕ → ℕ → Bool
have_one_location r d e = pointwise nat_eq (location_at r d) (location_at r e)

-- for each event whether it is at the location of event e
abbrev pub flags_like : Recording → ℕ → List Bool
flags_like r e = map (λ d. nat_lt e (length r.events) && have_one_location r d e) (before (length r.events))

-- The flags of the events that a name means: of a number, the events at the location of that event; of a word, the
-- accesses whose locations it fits best.
abbrev pub AreMeant : Recording → Name → List Bool → Type 0
AreMeant r (Event e) flags = flags ≡ flags_like r e
AreMeant r (Place word) flags = flags ≡ flags_of_place r word.now

-- for each event whether one of the names means it
abbrev pub named_of : List Bool → List Bool → List Bool
named_of ones others = map (λ e. slice_index_or ones e false || slice_index_or others e false) (before (length ones))

-- the variables on which accesses that the one name means conflict with accesses that the other means
pub record AreChosen (r : Recording) (ones others chosen : List Bool) : Type 0 where
  pub len : length chosen ≡ length r.variables
  pub shared : (x : ℕ) → x < length r.variables → (slice_index_or chosen x false ≡ true) ↔ IsShared r.events ones others x

-- the text of the table of all accesses of the chosen variables, by location and operation
pub record IsTableText (r : Recording) (named chosen : List Bool) (text : List ℕ) : Type 0 where
  pub places : List ℕ
  pub numbers : AreNumbers r places
  pub uses : Uses
  pub columns : AreColumns r (keys_of r.events places chosen) named uses
  pub printed : text ≡ uses_words r chosen uses

-- the text of the table for two sets of events
pub record IsTableOf (r : Recording) (ones others : List Bool) (text : List ℕ) : Type 0 where
  pub one_place : IsAtOnePlace r ones
  pub other_place : IsAtOnePlace r others
  pub chosen : List Bool
  pub are_chosen : AreChosen r ones others chosen
  pub some : (x : ℕ) × (slice_index_or chosen x false ≡ true)
  pub table : IsTableText r (named_of ones others) chosen text

-- the text of the table between the names
pub record AreUsesTold (r : Recording) (one other : Name) (text : List ℕ) : Type 0 where
  pub ones : List Bool
  pub others : List Bool
  pub first : AreMeant r one ones
  pub second : AreMeant r other others
  pub told : IsTableOf r ones others text

-- one of the sets has events at several places, or no event of one conflicts with an event of the other
abbrev pub HaveNoPair : Recording → List Bool → List Bool → Type 0
HaveNoPair r ones others = HaveSeveral r ones ⊎ HaveSeveral r others ⊎ ((x : ℕ) → x < length r.variables → ¬ IsShared r.events ones others x)

-- more than 16,777,216 locks are held at the accesses of the variables, counted over all accesses
abbrev pub AreTooMany : Recording → List Bool → UsesFault → Type 0
AreTooMany r chosen NoSuchPair = ⊥
AreTooMany r chosen TooMany =
    (places : List ℕ) × AreNumbers r places × (16777216 < holds_in r (λ e. nat_lt 0 (slice_index (keys_of r.events places chosen) e)) (length r.events))
AreTooMany r chosen OutOfMemory = ⊤

-- why there is no table for two sets of events
abbrev pub HaveNoTable : Recording → List Bool → List Bool → UsesFault → Type 0
HaveNoTable r ones others NoSuchPair = HaveNoPair r ones others
HaveNoTable r ones others OutOfMemory = ⊤
HaveNoTable r ones others TooMany = (chosen : List Bool) × AreChosen r ones others chosen × AreTooMany r chosen TooMany

-- why there is no table between the names
abbrev pub AreNoUses : Recording → Name → Name → UsesFault → Type 0
AreNoUses r one other OutOfMemory = ⊤
AreNoUses r one other fault = (ones others : List Bool) × AreMeant r one ones × AreMeant r other others × HaveNoTable r ones others fault
