-- What is counted of verdicts on patterns of two requests. `r` is a recording. All notions here are this project's own.
use Rattle.std.specs.Prelude.{◌≡◌, ℕ, Bool, true, false, cond, List, [], ◌∷◌, ◌++◌, length, count_by}
use Rattle.rapid_text.specs.Recording.{Recording}
use Rattle.race_triage.specs.Pieces.{capped}
use Rattle.deadlock_triage.specs.declared.outcomes.Outcome.{Outcome}
use Rattle.deadlock_triage.specs.declared.outcomes.Outcome.TheVariants.{Deadlock, Undecided, Apart}
use Rattle.deadlock_triage.specs.declared.outcomes.Verdict.{Verdict}
use Rattle.deadlock_triage.specs.declared.verdicts.Deadlocks.{Deadlocks}
use Rattle.deadlock_report.specs.declared.counts.Counts.{Counts}
use Rattle.deadlock_report.specs.declared.kinds.Kind.{Kind}
use Rattle.deadlock_report.specs.declared.kinds.Kind.TheVariants.{Shown, Open, Never}

-- the kind of an outcome
abbrev pub kind_of : Outcome → Kind
kind_of (Deadlock how events threads) = Shown
kind_of (Undecided tried) = Open
kind_of Apart = Never

abbrev pub is_same : Kind → Kind → Bool
is_same Shown Shown = true
is_same Open Open = true
is_same Never Never = true
is_same k j = false

-- whether the verdict is of this kind
abbrev pub is_of : Kind → Verdict → Bool
is_of k v = is_same k (kind_of v.outcome)

-- Each cycle of up to this many threads was looked at.
abbrev pub whole_of : Bool → ℕ
whole_of is_whole = cond is_whole 2 1

-- The counts of a trace and of some verdicts. `requests` is the number of nested requests.
pub record AreCounts (r : Recording) (requests : ℕ) (is_whole : Bool) (vs : List Verdict) (c : Counts) : Type 0 where
  pub events : c.events ≡ length r.events
  pub threads : c.threads ≡ length r.threads
  pub nested : c.nested ≡ requests
  pub patterns : c.patterns ≡ capped (length vs)
  pub deadlocks : c.deadlocks ≡ capped (count_by (is_of Shown) vs)
  pub undecided : c.undecided ≡ capped (count_by (is_of Open) vs)
  pub apart : c.apart ≡ capped (count_by (is_of Never) vs)
  pub whole : c.whole ≡ whole_of is_whole

-- the counts of a trace and of all its verdicts
abbrev pub AreCountsIn : Recording → Deadlocks → Counts → Type 0
AreCountsIn r found c = AreCounts r found.nested found.is_whole found.verdicts.items c

-- one more verdict is counted
abbrev pub AreCountsWith : Verdict → Counts → Counts → Type 0
AreCountsWith v old new =
    (r : Recording) (requests : ℕ) (is_whole : Bool) (vs : List Verdict) → AreCounts r requests is_whole vs old → AreCounts r requests is_whole (vs ++ v ∷ []) new
