-- Which verdicts are printed. `r` is the trace's recording. All notions here are this project's own.
use Rattle.std.specs.Prelude.{◌≡◌, ℕ, ◌-◌, ◌&&◌, ◌||◌, ◌++◌, not, Bool, true, cond, List, filter, length, count_by, Vec, Option, Some, None, is_some, option_map}
use Rattle.std.specs.List.{list_any, slice_split}
use Rattle.std.specs.declared.alloc.Global.{Global}
use Rattle.indexmap.specs.IndexSet.{IndexSet, keys}
use Rattle.rapid_text.specs.Reading.{is_line_feed}
use Rattle.rapid_text.specs.Recording.{Recording}
use Rattle.race_triage.specs.Chosen.{filters_any, shows_lines}
use Rattle.race_triage.specs.Pieces.{capped}
use Rattle.race_triage.specs.declared.filters.Filters.{Filters}
use Rattle.deadlock_triage.specs.declared.outcomes.Verdict.{Verdict}
use Rattle.deadlock_report.specs.Counts.{is_of}
use Rattle.deadlock_report.specs.Known.{has_key, keys_of, locations_in}
use Rattle.deadlock_report.specs.Texts.{request_text}
use Rattle.deadlock_report.specs.declared.chosen.Chosen.{Chosen}
use Rattle.deadlock_report.specs.declared.kinds.Kind.TheVariants.{Shown, Never}

-- the verdict is not apart, or those are wanted
abbrev pub is_wanted : Bool → Verdict → Bool
is_wanted apart v = apart || not (is_of Never v)

-- the lines of the verdict's block below the first one
abbrev pub body_text : Recording → Verdict → List ℕ
body_text r v = request_text r v.first v.second ++ request_text r v.second v.first

-- a set has one of the keys that the locations of the block have
abbrev pub is_known : Recording → List (Vec ℕ Global) → Verdict → Bool
is_known r texts v = list_any (has_key texts) (keys_of (locations_in (slice_split is_line_feed (body_text r v))))

-- the verdict is no deadlock with these keys, if there are any
abbrev pub is_fresh : Recording → Option (List (Vec ℕ Global)) → Verdict → Bool
is_fresh r None v = true
is_fresh r (Some texts) v = not (is_of Shown v && is_known r texts v)

-- the keys of known deadlocks, if any were given
abbrev pub known_in : {S : Type 0} → Option (IndexSet (Vec ℕ Global) S) → Option (List (Vec ℕ Global))
known_in known = option_map keys known

-- The filters keep the block of the verdict: a text of `only` occurs in the lines of one of its requests, if there are
-- any, and no text of `hide` does.
abbrev pub is_kept : Recording → Filters → Verdict → Bool
is_kept r f v = shows_lines f (request_text r v.first v.second) (request_text r v.second v.first)

-- how many are left out if this many of all are kept, if that is counted
abbrev pub left_out : Bool → ℕ → ℕ → Option ℕ
left_out is_counted all kept = cond is_counted (Some (all - kept)) None

-- the verdicts that may be printed, and those of them that are no known deadlocks
abbrev pub wanted_in : Bool → List Verdict → List Verdict
wanted_in apart vs = filter (is_wanted apart) vs

abbrev pub fresh_in : Recording → Option (List (Vec ℕ Global)) → Bool → List Verdict → List Verdict
fresh_in r known apart vs = filter (is_fresh r known) (wanted_in apart vs)

-- The chosen verdicts are those that are wanted, are no known deadlocks, and are left out by no filter. Known deadlocks
-- are counted if a text of known ones was given, and hidden blocks if there is a filter.
pub record AreChosen (r : Recording) (known : Option (List (Vec ℕ Global))) (f : Filters) (apart : Bool) (vs : List Verdict) (c : Chosen) : Type 0 where
  pub verdicts : c.verdicts.items ≡ filter (is_kept r f) (fresh_in r known apart vs)
  pub deadlocks : c.deadlocks ≡ capped (count_by (is_of Shown) c.verdicts.items)
  pub known_deadlocks : c.known ≡ left_out (is_some known) (length (wanted_in apart vs)) (length (fresh_in r known apart vs))
  pub hidden : c.hidden ≡ left_out (filters_any f) (length (fresh_in r known apart vs)) (length c.verdicts.items)
