-- Which rows a page has, and what is shown beside each. `r` is the recording of its trace.
use Rattle.std.specs.Prelude.{ℕ, Bool, true, false, cond, List, [], ◌++◌, map, take, slice_get, codes, bytes_eq, Option, Some, None, option_and_then, option_map}
use Rattle.std.specs.List.{filter}
use Rattle.followed_races.specs.Choosing.{told_at}
use Rattle.followed_races.specs.declared.entries.Followed.{Followed}
use Rattle.rapid_text.specs.Recording.{Recording}
use Rattle.explain_report.specs.places.Located.{location_at}
use Rattle.race_page.specs.declared.about.About.{About}
use Rattle.race_triage.specs.declared.verdicts.Outcome.{Outcome}
use Rattle.race_triage.specs.declared.verdicts.Outcome.TheVariants.{Race as RaceOutcome, Undecided as UndecidedOutcome, Apart as ApartOutcome}
use Rattle.race_triage.specs.declared.verdicts.Verdict.{Verdict}
use Rattle.race_page.specs.declared.shown.Seen.{Seen}
use Rattle.race_page.specs.declared.shown.Seen.TheVariants.{Unasked, NotFollowed, Departed, OtherMemory, Matters, Same, Unknown}
use Rattle.race_page.specs.declared.shown.Shown.{Shown}
use Rattle.race_page.specs.declared.shown.Sort.{Sort}
use Rattle.race_page.specs.declared.shown.Sort.TheVariants.{Race, Undecided, Apart}

-- the most rows of each sort
abbrev pub row_limit : ℕ
row_limit = 2000

-- of which sort an outcome is
abbrev pub outcome_sort : Outcome → Sort
outcome_sort (RaceOutcome how events threads) = Race
outcome_sort (UndecidedOutcome tried) = Undecided
outcome_sort ApartOutcome = Apart

-- how followed races came out, if there is a file of followed races
abbrev pub followed_in : About → Option (List Followed)
followed_in about = option_map (λ fs. fs.now) about.followed

-- the entry on accesses at these two locations: the first that has them, in one order or the other
abbrev pub entry_on : Option (List Followed) → List ℕ → List ℕ → Option Followed
entry_on None here there = None
entry_on (Some fs) here there = option_and_then (λ k. slice_get fs k) (told_at here there fs)

-- whether the order matters
abbrev pub order_seen : Option Bool → Seen
order_seen None = Unknown
order_seen (Some true) = Matters
order_seen (Some false) = Same

-- the same, if the two accesses were on one memory
abbrev pub memory_seen : Option Bool → Option Bool → Seen
memory_seen (Some false) matters = OtherMemory
memory_seen (Some true) matters = order_seen matters
memory_seen None matters = order_seen matters

-- how a race came out
abbrev pub entry_seen : Option Followed → Seen
entry_seen None = NotFollowed
entry_seen (Some f) = cond (bytes_eq f.ended.items (codes "departed")) Departed (memory_seen f.same_memory f.matters)

-- what is shown beside accesses at these two locations
abbrev pub seen_on : Option (List Followed) → List ℕ → List ℕ → Seen
seen_on None here there = Unasked
seen_on (Some fs) here there = entry_seen (entry_on (Some fs) here there)

-- what is shown beside a row of this sort: only a race has something
abbrev pub sort_seen : Sort → Seen → Seen
sort_seen Race seen = seen
sort_seen Undecided seen = Unasked
sort_seen Apart seen = Unasked

-- the entry on events a and b, by their locations
abbrev pub entry_at : Recording → Option (List Followed) → ℕ → ℕ → Option Followed
entry_at r told a b = entry_on told (location_at r a) (location_at r b)

-- what is shown beside a race of events a and b
abbrev pub seen_at : Recording → Option (List Followed) → ℕ → ℕ → Seen
seen_at r told a b = seen_on told (location_at r a) (location_at r b)

-- what is shown beside the row of a verdict
abbrev pub seen_beside : Recording → Option (List Followed) → Verdict → Seen
seen_beside r told v = sort_seen (outcome_sort v.outcome) (seen_at r told v.first v.second)

-- the row of a verdict
abbrev pub row_of : Recording → Option (List Followed) → Verdict → Shown
row_of r told v =
    record { sort = outcome_sort v.outcome; first = v.first; second = v.second; seen = seen_beside r told v; verdict = v }

-- whether two sorts are one
abbrev pub is_sort : Sort → Sort → Bool
is_sort Race Race = true
is_sort Undecided Undecided = true
is_sort Apart Apart = true
is_sort _ _ = false

-- whether the verdict is of the sort
abbrev pub is_of : Sort → Verdict → Bool
is_of sort v = is_sort (outcome_sort v.outcome) sort

-- the rows of the verdicts: as many as a page has of a sort
abbrev pub rows_of : Recording → Option (List Followed) → List Verdict → List Shown
rows_of r told vs = map (row_of r told) (take row_limit vs)

-- the rows of the verdicts of a sort
abbrev pub sort_rows : Recording → Option (List Followed) → Sort → List Verdict → List Shown
sort_rows r told sort vs = rows_of r told (filter (is_of sort) vs)

-- the rows of all verdicts, with or without those that are apart
abbrev pub all_rows : Recording → Option (List Followed) → Bool → List Verdict → List Shown
all_rows r told apart vs = sort_rows r told Race vs ++ sort_rows r told Undecided vs ++ cond apart (sort_rows r told Apart vs) []

-- the same for what a page is about
abbrev pub row_about : About → Verdict → Recording → Shown
row_about about v r = row_of r (followed_in about) v

abbrev pub rows_about : About → List Verdict → Recording → List Shown
rows_about about vs r = rows_of r (followed_in about) vs

abbrev pub sort_rows_about : About → Sort → List Verdict → Recording → List Shown
sort_rows_about about sort vs r = sort_rows r (followed_in about) sort vs

abbrev pub all_rows_about : About → Bool → List Verdict → Recording → List Shown
all_rows_about about apart vs r = all_rows r (followed_in about) apart vs
