-- What is held of a pair is held of each pair of the same classes that comes later.
use Rattle.std.proofs.Common.{◌≡◌, ℕ, ◌<◌, ◌≤◌, Bool, List, length, slice_get, slice_index, Some, sym, ap, ◌∙◌, arith}
use Rattle.std.proofs.lemmas.List.Elements.{All-get_or}
use Rattle.std.proofs.lemmas.Option.{slice_get-get_or}
use Rattle.std.specs.List.{slice_index_or}
use Rattle.race_groups.specs.Classes.{AreClasses, is_kept_pair, keeps_by}
use Rattle.race_groups.specs.Shared.{keeps_shared}
use Rattle.race_groups.specs.declared.class.Class.{Class}
use Rattle.rapid_text.specs.declared.event.Event.{Event}
use Rattle.rapid_text.specs.declared.event.Op.TheVariants.{Read}
use Rattle.race_groups.specs.least_pairs.Going.{AreMore, HasCandidate, HasOpen, IsSound}
use Rattle.race_groups.specs.declared.least_pairs.least.Least.{Least}
use Rattle.race_groups.specs.declared.least_pairs.leasts.Search.{Search}
use Rattle.race_groups.specs.declared.least_pairs.tries.Between.{Between}
use Rattle.race_groups.proofs.least_pairs.HeldLemmas.{candidate_stays, open_stays, variable_stays, candidate_later, open_later, variable_later}

-- two events of one class are at one place
place_of_class :
    (T : List Event) (place : ℕ → ℕ) (numbers : List ℕ) (infos : List Class) → AreClasses T place numbers infos → (a b : ℕ) → a < length T → b < length T
    → slice_index numbers a ≡ slice_index numbers b → place a ≡ place b
place_of_class T place numbers infos are a b lt lt' same =
    let none : Class = record { place = 0; op = Read 0; held = 0 } in
    let len = are.len in
    let within : slice_index numbers a < length infos = All-get_or (λ c. c < length infos) numbers a 0 (omega (arith, lt, len)) are.within in
    let info : Class = slice_index_or infos (slice_index numbers a) none in
    let is : slice_get infos (slice_index numbers a) ≡ Some info = slice_get-get_or infos (slice_index numbers a) none within in
    sym (are.located a info lt is) ∙ are.located b info lt' (ap (slice_get infos) (sym same) ∙ is)

-- two pairs of events of the same classes, of which neither event of the second stands before that of the first
module _ (s : Search) (sound : IsSound s) (leasts : List Least) (a b c d : ℕ) (le : a ≤ c) (le' : b ≤ d) (within : c < length s.indexed.now.events) (within' : d < length s.indexed.now.events)
    (same : slice_index s.classes.now.numbers.items a ≡ slice_index s.classes.now.numbers.items c) (same' : slice_index s.classes.now.numbers.items b ≡ slice_index s.classes.now.numbers.items d) where
  abbrev place : ℕ → ℕ
  place = slice_index s.places.now

  first : place a ≡ place c
  first = place_of_class s.indexed.now.events place s.classes.now.numbers.items s.classes.now.infos.items sound.groups.classes a c (omega (arith, le, within)) within same

  second : place b ≡ place d
  second = place_of_class s.indexed.now.events place s.classes.now.numbers.items s.classes.now.infos.items sound.groups.classes b d (omega (arith, le', within')) within' same'

  pub candidate_onward : (x : ℕ) → HasCandidate s x leasts a b → HasCandidate s x leasts c d
  candidate_onward x h = (
    candidate_later place s.groups.now.rows.items leasts a b c d first second le le' h.0,
    variable_later place s.groups.now.rows.items leasts a b c d first second le le' x h.1,
  )

  abbrev classes_share : ℕ → ℕ → Bool
  classes_share i j = keeps_by (keeps_shared s.classes.now.lists.keys) (slice_get s.classes.now.infos.items i) (slice_get s.classes.now.infos.items j)

  abbrev shares : ℕ → ℕ → Bool
  shares e f = is_kept_pair (keeps_shared s.classes.now.lists.keys) s.classes.now.numbers.items s.classes.now.infos.items e f

  pub shares_alike : shares a b ≡ shares c d
  shares_alike =
      ap (λ i. classes_share i (slice_index s.classes.now.numbers.items b)) same ∙ ap (λ j. classes_share (slice_index s.classes.now.numbers.items c) j) same'

  pub open_onward : (of : Between) → HasOpen s leasts of a b → HasOpen s leasts of c d
  open_onward of h apart =
      let held = h (shares_alike ∙ apart) in (
        open_later place s.groups.now.rows.items leasts a b c d first second le le' s.most of held.0,
        variable_later place s.groups.now.rows.items leasts a b c d first second le le' of.variable held.1,
      )

-- what is held stays held
module _ (s : Search) (old new : List Least) (a b : ℕ) where
  pub HasCandidate-more : (x : ℕ) → AreMore s.most x old new → HasCandidate s x old a b → HasCandidate s x new a b
  HasCandidate-more x more h = (
    candidate_stays s.most x old new more (slice_index s.places.now) s.groups.now.rows.items a b h.0,
    variable_stays s.most x old new more (slice_index s.places.now) s.groups.now.rows.items a b h.1,
  )

  pub HasOpen-more : (of : Between) → AreMore s.most of.variable old new → HasOpen s old of a b → HasOpen s new of a b
  HasOpen-more of more h apart =
      let held = h apart in (
        open_stays s.most of.variable old new more (slice_index s.places.now) s.groups.now.rows.items of a b held.0,
        variable_stays s.most of.variable old new more (slice_index s.places.now) s.groups.now.rows.items a b held.1,
      )
