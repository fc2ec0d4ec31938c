-- What is known of two requests that wait for each other. `r` is the recording of a trace, `T` is its events.
use Rattle.std.specs.Prelude.{◌≡◌, ℕ, List, [], ◌∷◌}
use Rattle.rapid_text.specs.Recording.{Recording}
use Rattle.rapid_text.specs.declared.event.Event.{Event}
use Rattle.schedule.specs.Reordering.{IsCorrectReordering}
use Rattle.must_order.specs.MustBefore.{IsForced, IsGuarded}
use Rattle.lock_waits.specs.Required.{AreRefuted}
use Rattle.lock_waits.specs.Waits.{AreOfTwoThreads, ShowsDeadlock}
use Rattle.deadlock_triage.specs.Verdicts.{IsNeverShown}
use Rattle.deadlock_triage.specs.declared.finding.Finding.{Finding}
use Rattle.deadlock_triage.specs.declared.finding.Finding.TheVariants.{Shown, Apart, Undecided}

-- Neither order nor a lock forbids a schedule that shows the two requests. They do not require what cannot be, neither
-- is forced before the other, and two threads hold no common lock.
pub record AreOpen (T : List Event) (e d : ℕ) : Type 0 where
  pub unrefuted : ¬ AreRefuted T (e ∷ d ∷ [])
  pub unforced : ¬ IsForced T e d
  pub unforced_back : ¬ IsForced T d e
  pub unguarded : AreOfTwoThreads T e d → ¬ IsGuarded T e d

-- The schedule is a correct reordering of this trace and shows the two requests; or no correct reordering does; or
-- neither is known, and nothing forbids such a schedule.
abbrev pub IsFinding : Recording → ℕ → ℕ → Finding → Type 0
IsFinding r e d (Shown s) = (s.trace ≡ r) × IsCorrectReordering r.events s.events × ShowsDeadlock r.events s.events (e ∷ d ∷ [])
IsFinding r e d Apart = IsNeverShown r.events e d
IsFinding r e d Undecided = AreOpen r.events e d
