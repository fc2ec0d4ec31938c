-- Which verdicts are printed. All notions here are this project's own.
use Rattle.std.specs.Prelude.{◌≡◌, ℕ, ◌+◌, ◌-◌, ◌^◌, ◌==◌, ◌&&◌, ◌||◌, nat_eq, not, Bool, true, false, cond, max, min, List, [], ◌++◌, drop, filter, length, count_by, is_some, map, option_map, Option, Some, None, Result, IfOk}
use Rattle.std.specs.List.{list_any, starts_with}
use Rattle.indexmap.specs.IndexSet.{IndexSet, keys}
use Rattle.rapid_text.specs.declared.memory.OutOfMemory.{OutOfMemory}
use Rattle.rapid_text.specs.Recording.{Recording}
use Rattle.event_index.specs.Lookups.{before}
use Rattle.race_groups.specs.Rows.{same_places}
use Rattle.race_triage.specs.Pieces.{capped, event_words_at}
use Rattle.race_triage.specs.declared.chosen.Chosen.{Chosen}
use Rattle.race_triage.specs.declared.chosen.Part.{Part}
use Rattle.race_triage.specs.declared.chosen.Part.TheVariants.{Races, Open, Never}
use Rattle.race_triage.specs.declared.filters.Filters.{Filters}
use Rattle.race_triage.specs.declared.verdicts.Outcome.TheVariants.{Race, Undecided, Apart}
use Rattle.race_triage.specs.declared.verdicts.Outcome.{Outcome}
use Rattle.race_triage.specs.declared.verdicts.Verdict.{Verdict}
use Rattle.race_triage.specs.declared.verdicts.Verdicts.{Verdicts}

-- the kind of an outcome
abbrev pub part_of : Outcome → Part
part_of (Race how events threads) = Races
part_of (Undecided tried) = Open
part_of Apart = Never

abbrev pub is_same : Part → Part → Bool
is_same Races Races = true
is_same Open Open = true
is_same Never Never = true
is_same p q = false

-- whether the verdict is of this kind
abbrev pub is_of : Part → Verdict → Bool
is_of p v = is_same p (part_of v.outcome)

-- the text occurs in the line
abbrev pub stands_in : List ℕ → List ℕ → Bool
stands_in text line = (length text == 0) || list_any (λ n. starts_with nat_eq (drop n line) text) (before (length line))

-- the text occurs in one of the two lines
abbrev pub is_in : List ℕ → List ℕ → List ℕ → Bool
is_in first second text = stands_in text first || stands_in text second

-- The filters keep a block with these two lines: a text of `only` occurs in them, if there are any, and no text of
-- `hide` does.
abbrev pub is_shown : List (List ℕ) → List (List ℕ) → List ℕ → List ℕ → Bool
is_shown only hide first second = not (list_any (is_in first second) hide) && ((length only == 0) || list_any (is_in first second) only)

-- the filters keep the block of this verdict
abbrev pub is_kept : Recording → List (List ℕ) → List (List ℕ) → Verdict → Bool
is_kept r only hide v = is_shown only hide (event_words_at r v.first) (event_words_at r v.second)

-- the pairs of locations whose races are known, if any were given
abbrev pub known_places : {S : Type 0} → Option (IndexSet (ℕ × ℕ) S) → Option (List (ℕ × ℕ))
known_places known = option_map keys known

-- the verdict's pair of locations is in the list
abbrev pub is_known : Option (List (ℕ × ℕ)) → Verdict → Bool
is_known None v = false
is_known (Some places) v = list_any (same_places v.row.places) places

-- the verdict is a race, and is known
abbrev pub is_known_race : Option (List (ℕ × ℕ)) → Verdict → Bool
is_known_race known v = is_of Races v && is_known known v

-- the verdict is printed
abbrev pub is_told : Recording → Option (List (ℕ × ℕ)) → List (List ℕ) → List (List ℕ) → Verdict → Bool
is_told r known only hide v = not (is_known_race known v) && is_kept r only hide v

-- the filters leave the verdict out
abbrev pub is_hidden : Recording → Option (List (ℕ × ℕ)) → List (List ℕ) → List (List ℕ) → Verdict → Bool
is_hidden r known only hide v = not (is_known_race known v) && not (is_kept r only hide v)

-- the verdicts that may be printed, in order: races, undecided verdicts, and apart verdicts if they are wanted
abbrev pub in_order : Bool → List Verdict → List Verdict
in_order apart vs = filter (is_of Races) vs ++ filter (is_of Open) vs ++ cond apart (filter (is_of Never) vs) []

-- the number of such verdicts, if it is counted
abbrev pub told_count : Bool → (Verdict → Bool) → List Verdict → Option ℕ
told_count false test vs = None
told_count true test vs = Some (capped (count_by test vs))

-- The chosen verdicts are those that are neither known races nor left out by a filter. Known races are counted if a
-- text of known races was given, and hidden blocks if there is a filter.
pub record AreChosen (r : Recording) (known : Option (List (ℕ × ℕ))) (only hide : List (List ℕ)) (apart : Bool) (vs : List Verdict) (c : Chosen) : Type 0 where
  pub verdicts : c.verdicts.items ≡ filter (is_told r known only hide) (in_order apart vs)
  pub races : c.races ≡ capped (count_by (is_of Races) c.verdicts.items)
  pub known_races : c.known ≡ told_count (is_some known) (is_known_race known) (in_order apart vs)
  pub hidden : c.hidden ≡ told_count (not (length only == 0) || not (length hide == 0)) (is_hidden r known only hide) (in_order apart vs)

-- n plus m, but at most 2^64 - 1, or n if n is greater
abbrev pub raised : ℕ → ℕ → ℕ
raised n m = min (n + m) (max n (2 ^ 64 - 1))

-- the same, if it is counted
abbrev pub more_of : Option ℕ → ℕ → Option ℕ
more_of None m = None
more_of (Some n) m = Some (raised n m)

-- What is chosen before and after some more verdicts are considered.
pub record AreConsidered (r : Recording) (known : Option (List (ℕ × ℕ))) (only hide : List (List ℕ)) (some : List Verdict) (old new : Chosen) : Type 0 where
  pub verdicts : new.verdicts.items ≡ old.verdicts.items ++ filter (is_told r known only hide) some
  pub races : new.races ≡ raised old.races (count_by (λ v. is_told r known only hide v && is_of Races v) some)
  pub known_races : new.known ≡ more_of old.known (count_by (is_known_race known) some)
  pub hidden : new.hidden ≡ more_of old.hidden (count_by (is_hidden r known only hide) some)

-- the texts of the filters
abbrev pub only_texts : Filters → List (List ℕ)
only_texts f = map (λ t. t.now) f.only.now

abbrev pub hide_texts : Filters → List (List ℕ)
hide_texts f = map (λ t. t.now) f.hide.now

-- there is a filter
abbrev pub filters_any : Filters → Bool
filters_any f = not (length (only_texts f) == 0) || not (length (hide_texts f) == 0)

-- the filters keep a block with these two lines
abbrev pub shows_lines : Filters → List ℕ → List ℕ → Bool
shows_lines f first second = is_shown (only_texts f) (hide_texts f) first second

-- the filters keep the block of this verdict
abbrev pub keeps_block : Recording → Filters → Verdict → Bool
keeps_block r f v = is_kept r (only_texts f) (hide_texts f) v

-- without filters a block is kept
abbrev pub KeepsUnfiltered : Filters → Result Bool OutOfMemory → Type 0
KeepsUnfiltered f answer = f.only.now ≡ [] → f.hide.now ≡ [] → IfOk answer (λ kept. kept ≡ true)

-- what is chosen of all verdicts, with these known races and filters
abbrev pub AreChosenBy : {S : Type 0} → Recording → Option (IndexSet (ℕ × ℕ) S) → Filters → Bool → Verdicts → Chosen → Type 0
AreChosenBy r known f apart found c =
    AreChosen r (known_places known) (only_texts f) (hide_texts f) apart found.verdicts.items c

-- what is chosen before and after some more verdicts are considered, with these known races and filters
abbrev pub AreConsideredBy : {S : Type 0} → Recording → Option (IndexSet (ℕ × ℕ) S) → Filters → List Verdict → Chosen → Chosen → Type 0
AreConsideredBy r known f some old new =
    AreConsidered r (known_places known) (only_texts f) (hide_texts f) some old new

-- the same, for the verdicts of one kind among these
abbrev pub IsPartChosen : {S : Type 0} → Recording → Option (IndexSet (ℕ × ℕ) S) → Filters → Part → List Verdict → Chosen → Chosen → Type 0
IsPartChosen r known f part vs old new = AreConsideredBy r known f (filter (is_of part) vs) old new
