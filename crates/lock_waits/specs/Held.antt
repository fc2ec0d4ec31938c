-- Requests that a held lock refuses. No public clause cites this module.
use Rattle.std.specs.Prelude.{◌≡◌, ℕ, List, Some}
use Rattle.rapid_text.specs.declared.event.Event.{Event}
use Rattle.schedule.specs.Refusals.{refusal_of}
use Rattle.schedule.specs.declared.refusal.Disabled.{Disabled}
use Rattle.schedule.specs.declared.refusal.Disabled.TheVariants.{LockHeld}

-- the cause is that another thread holds the lock
abbrev pub IsHold : Disabled → Type 0
IsHold cause = (u : ℕ) × (cause ≡ LockHeld u)

-- after P the event is refused because another thread holds its lock
abbrev pub IsHeldBack : List Event → List ℕ → ℕ → Type 0
IsHeldBack T P e = (u : ℕ) × (refusal_of T P e ≡ Some (LockHeld u))
