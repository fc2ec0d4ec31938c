-- Which requests two names mean, and what is printed about both. `r` is a trace's recording, `one` and `other` are the names,
-- `a` is the earlier request, `b` the later. All notions here are this project's own.
use Rattle.std.specs.Prelude.{◌≡◌, ◌⊎◌, ℕ, min, max, Bool, true, false, List, [], ◌∷◌, MatchOption, ⊤}
use Rattle.rapid_text.specs.Recording.{Recording}
use Rattle.schedule.specs.Reordering.{IsCorrectReordering}
use Rattle.lock_waits.specs.Waits.{ShowsDeadlock}
use Rattle.deadlock_triage.specs.Findings.{AreOpen, IsFinding}
use Rattle.deadlock_triage.specs.Requests.{IsPair}
use Rattle.deadlock_triage.specs.Verdicts.{IsNeverShown}
use Rattle.deadlock_triage.specs.declared.finding.Finding.{Finding}
use Rattle.deadlock_report.specs.Explained.{IsDeadlockTold}
use Rattle.deadlock_report.specs.Schedules.{schedule_lines}
use Rattle.explain_report.specs.declared.places.name.Name.{Name}
use Rattle.explain_report.specs.declared.places.name.Name.TheVariants.{Event, Place}
use Rattle.explain_report.specs.picture.Pictures.{IsPicture}
use Rattle.calls.specs.pair.Forms.{lines_form}
use Rattle.calls.specs.declared.pair.form.Form.{Form}

-- the names are the numbers of a and b, two requests that wait for each other
abbrev pub AreNamedRequests : Recording → Name → Name → ℕ → ℕ → Type 0
AreNamedRequests r (Event one) (Event other) a b = (a ≡ min one other) × (b ≡ max one other) × IsPair r a b
AreNamedRequests r (Event one) (Place other) a b = ⊥
AreNamedRequests r (Place one) (Event other) a b = ⊥
AreNamedRequests r (Place one) (Place other) a b = ⊥

-- the names are not the numbers of such requests
abbrev pub AreNoRequests : Recording → Name → Name → Type 0
AreNoRequests r (Event one) (Event other) = ¬ IsPair r (min one other) (max one other)
AreNoRequests r (Event one) (Place other) = ⊤
AreNoRequests r (Place one) (Event other) = ⊤
AreNoRequests r (Place one) (Place other) = ⊤

-- the text has a right finding on the two requests
abbrev pub AreRequestsTold : Recording → ℕ → ℕ → Bool → List ℕ → Type 0
AreRequestsTold r a b all text = (finding : Finding) × IsFinding r a b finding × IsDeadlockTold r finding a b all text

-- the text prints the schedule P in this form
abbrev pub IsDeadlockPrinted : Recording → List ℕ → ℕ → ℕ → Form → List ℕ → Type 0
IsDeadlockPrinted r P a b form text = MatchOption (lines_form form) (IsPicture r P a b text) (λ lines. text ≡ schedule_lines r P a b lines)

-- the names mean two requests, and the text explains them
pub record IsDeadlockExplained (r : Recording) (one other : Name) (all : Bool) (text : List ℕ) : Type 0 where
  pub a : ℕ
  pub b : ℕ
  pub requests : AreNamedRequests r one other a b
  pub told : AreRequestsTold r a b all text

-- the names mean two requests, and the text prints, in this form, a correct reordering that shows them
pub record IsDeadlockWitness (r : Recording) (one other : Name) (form : Form) (text : List ℕ) : Type 0 where
  pub a : ℕ
  pub b : ℕ
  pub requests : AreNamedRequests r one other a b
  pub events : List ℕ
  pub reordering : IsCorrectReordering r.events events
  pub shows : ShowsDeadlock r.events events (a ∷ b ∷ [])
  pub printed : IsDeadlockPrinted r events a b form text

-- The names mean two requests. If they are apart, no correct reordering shows them; otherwise neither order nor a lock
-- forbids one.
abbrev pub IsNoDeadlock : Recording → Name → Name → Bool → Type 0
IsNoDeadlock r one other true = (a b : ℕ) × AreNamedRequests r one other a b × IsNeverShown r.events a b
IsNoDeadlock r one other false = (a b : ℕ) × AreNamedRequests r one other a b × AreOpen r.events a b
