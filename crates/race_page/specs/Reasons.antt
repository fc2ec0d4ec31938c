-- The reason in a row that is no race. `r` is the recording of the trace, `a` the earlier event, `b` the later one. All notions here are
-- this project's own.
use Rattle.std.specs.Prelude.{◌≡◌, ℕ, ◌<◌, ◌≤◌, ◌⊎◌, ◌==◌, cond, List, [], ◌∷◌, ◌++◌, length, slice_index_or, Option, Some, None, codes, decimal}
use Rattle.std.specs.List.{concat}
use Rattle.markup.specs.Escaped.{escaped}
use Rattle.rapid_text.specs.Recording.{Recording}
use Rattle.must_order.specs.Held.{HasNoGuard, IsGuard}
use Rattle.must_order.specs.MustBefore.{IsForced, IsSharedBefore}
use Rattle.must_order.specs.declared.chains.Step.{Step}
use Rattle.race_triage.specs.declared.verdicts.Outcome.{Outcome}
use Rattle.race_triage.specs.declared.verdicts.Outcome.TheVariants.{Race, Undecided, Apart}
use Rattle.race_triage.specs.declared.verdicts.Verdict.{Verdict}
use Rattle.race_page.specs.Items.{element_text}
use Rattle.race_page.specs.Own.{begin_text, end_text}
use Rattle.race_page.specs.Raced.{IsRacedIn}
use Rattle.race_page.specs.declared.own.Tag.TheVariants.{Isolated, Facts}

-- neither order nor lock forbids a schedule, and no pair was tried
abbrev pub untried_words : List ℕ
untried_words = codes "undecided: no pair was tried, and neither order nor lock forbids a schedule"

-- neither order nor lock forbids a schedule, and pairs were tried
abbrev pub tried_words : List ℕ
tried_words = codes "undecided: no schedule was found, and neither order nor lock forbids one"

-- neither order nor lock keeps the two apart, but the critical sections and reads do
abbrev pub contradicted_words : List ℕ
contradicted_words = codes "apart: no order of the critical sections and reads shows the two side by side"

abbrev pub undecided_line : ℕ → List ℕ
undecided_line tried = cond (tried == 0) untried_words tried_words

-- the reason of an undecided row
abbrev pub undecided_reason : ℕ → List ℕ
undecided_reason tried = concat (begin_text Facts ∷ element_text Isolated (undecided_line tried) ∷ end_text Facts ∷ [])

-- a comes before b
abbrev pub forced_line : ℕ → ℕ → List ℕ
forced_line a b =
    concat
    (escaped (codes "apart: ") ∷ decimal a ∷ escaped (codes " comes before ") ∷ decimal b ∷ escaped (codes " in every correct reordering") ∷ [])

-- both threads hold the lock with this name
abbrev pub guarded_words : List ℕ → List ℕ
guarded_words name = concat (escaped (codes "apart: both threads hold ") ∷ escaped name ∷ [])

-- the same of lock l
abbrev pub guarded_line : Recording → ℕ → List ℕ
guarded_line r l = guarded_words (slice_index_or r.locks l [])

-- The line of two events that are apart, by the first case that holds: a is must-before b; both threads hold a lock, of which the least is
-- named; neither.
pub data IsApartLine (r : Recording) (a b : ℕ) (text : List ℕ) : Type 0 where
  forced : IsForced r.events a b → text ≡ forced_line a b → IsApartLine r a b text
  guarded :
      ¬ IsForced r.events a b → (lock : ℕ) → IsGuard r a b lock → ((k : ℕ) → k < lock → ¬ IsSharedBefore r.events a b k) → text ≡ guarded_line r lock
      → IsApartLine r a b text
  neither : ¬ IsForced r.events a b → HasNoGuard r a b → text ≡ concat (escaped contradicted_words ∷ []) → IsApartLine r a b text

-- the write and the read of a step race
abbrev pub step_text : ℕ → ℕ → List ℕ
step_text write read =
    concat
    (escaped (codes ", since ") ∷ decimal read ∷ escaped (codes " reads ") ∷ decimal write ∷ escaped (codes " (these two race: explain ") ∷ decimal write
    ∷ escaped (codes " ") ∷ decimal read ∷ escaped (codes ")") ∷ [])

abbrev pub raced_text : Option Step → List ℕ
raced_text None = []
raced_text (Some s) = step_text s.from s.to

-- the first read on the way from a to b that races with the write that it reads
abbrev pub IsRacedText : Recording → ℕ → ℕ → List ℕ → Type 0
IsRacedText r a b text = (raced : Option Step) × IsRacedIn r a b raced × (text ≡ raced_text raced)

abbrev pub why_begin : List ℕ
why_begin = concat (begin_text Facts ∷ begin_text Isolated ∷ [])

-- the line, and such a read
pub record IsWhyApart (r : Recording) (a b : ℕ) (text : List ℕ) : Type 0 where
  pub line : List ℕ
  pub raced : List ℕ
  pub printed : text ≡ why_begin ++ line ++ end_text Isolated ++ raced ++ end_text Facts
  pub lined : IsApartLine r a b line
  pub on_way : IsRacedText r a b raced

-- the same; nothing if the trace has no such events
abbrev pub IsApartReason : Recording → ℕ → ℕ → List ℕ → Type 0
IsApartReason r a b text = IsWhyApart r a b text ⊎ (((length r.events ≤ a) ⊎ (length r.events ≤ b)) × (text ≡ []))

abbrev pub IsReasonBy : Recording → ℕ → ℕ → Outcome → List ℕ → Type 0
IsReasonBy r a b (Race how events threads) text = text ≡ []
IsReasonBy r a b (Undecided tried) text = text ≡ undecided_reason tried
IsReasonBy r a b Apart text = IsApartReason r a b text

-- The reason of a verdict. A race has none.
abbrev pub IsReason : Recording → Verdict → List ℕ → Type 0
IsReason r v text = IsReasonBy r v.first v.second v.outcome text
