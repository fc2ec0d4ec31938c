-- The rivals of a variable: a few of its later accesses, which represent the others. No public clause cites this
-- module. `T` is the events of a trace.
use Rattle.std.specs.Prelude.{ℕ, ◌<◌, List, length, ⊤}
use Rattle.rapid_text.specs.declared.event.Event.{Event}
use Rattle.shb_clocks.specs.Candidates.{IsApart}
use Rattle.shb_clocks.specs.declared.rivals.Rivals.{Rivals}
use Rattle.shb_clocks.specs.declared.rivals.Rivals.TheVariants.{Nowhere, One, Two, Many}

-- SHB keeps a before the bases of all rivals; with `Many` this is not known
abbrev pub IsClear : List Event → Rivals → ℕ → Type 0
IsClear T Nowhere a = ⊤
IsClear T (One s) a = ¬ IsApart T a s
IsClear T (Two s t) a = (¬ IsApart T a s) × (¬ IsApart T a t)
IsClear T Many a = ⊥

-- the rivals are events of the trace
abbrev pub AreEvents : List Event → Rivals → Type 0
AreEvents T Nowhere = ⊤
AreEvents T (One s) = s < length T
AreEvents T (Two s t) = (s < length T) × (t < length T)
AreEvents T Many = ⊤

-- what SHB keeps before the base of n, it keeps before the bases of b and c
pub record StandsFor (T : List Event) (b c n : ℕ) : Type 0 where
  pub within : n < length T
  pub first : (a : ℕ) → ¬ IsApart T a n → ¬ IsApart T a b
  pub second : (a : ℕ) → ¬ IsApart T a n → ¬ IsApart T a c

-- an event that is clear of the new rivals is clear of the old rivals and of event e
pub record Adds (T : List Event) (old : Rivals) (e : ℕ) (new : Rivals) : Type 0 where
  pub events : AreEvents T new
  pub old_clear : (a : ℕ) → IsClear T new a → IsClear T old a
  pub event_clear : (a : ℕ) → IsClear T new a → ¬ IsApart T a e

-- e is apart from all that a is apart from; for example, a is e, or SHB keeps a before the base of e
abbrev pub IsNoLater : List Event → ℕ → ℕ → Type 0
IsNoLater T a e = (b : ℕ) → IsApart T a b → IsApart T e b

-- an event that is no later than e and clear of the new rivals is clear of the old rivals
pub record Narrows (T : List Event) (e : ℕ) (old new : Rivals) : Type 0 where
  pub events : AreEvents T new
  pub clear : (a : ℕ) → IsNoLater T a e → IsClear T new a → IsClear T old a
