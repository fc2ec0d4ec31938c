-- Patterns of two requests that wait for each other. Threads, locks and events do not count, only locations. The
-- patterns are those of Tunc, Mathur, Pavlogiannis and Viswanathan (PLDI 2023), joined by location. `T` is the events
-- of a trace; `place` gives the number of each event's location.
use Rattle.std.specs.Prelude.{◌≡◌, ◌⊎◌, ℕ, ◌<◌, List, [], ◌∷◌, Some}
use Rattle.rapid_text.specs.declared.event.Event.{Event}
use Rattle.rapid_text.specs.declared.event.Op.TheVariants.{Acquire}
use Rattle.event_index.specs.Events.{op_at}
use Rattle.must_order.specs.Held.{IsHeldFrom}
use Rattle.deadlock_triage.specs.declared.patterns.Part.{Part}
use Rattle.deadlock_triage.specs.declared.patterns.Pattern.{Pattern}

-- The locations of request e and of its hold. Request d waits for e: e's thread holds d's lock since the hold.
pub record IsPart (T : List Event) (place : ℕ → ℕ) (e d : ℕ) (p : Part) : Type 0 where
  pub lock : ℕ
  pub since : ℕ
  pub acquires : op_at T d ≡ Some (Acquire lock)
  pub held : IsHeldFrom T e lock since
  pub hold : p.hold ≡ place since
  pub request : p.request ≡ place e

-- the one part is less: by the hold, and then by the request
abbrev pub IsPartBefore : Part → Part → Type 0
IsPartBefore p q = (p.hold < q.hold) ⊎ ((p.hold ≡ q.hold) × (p.request < q.request))

-- the parts of the requests e and d are those of the pattern, in either order
abbrev pub HaveParts : List Event → (ℕ → ℕ) → ℕ → ℕ → Pattern → Type 0
HaveParts T place e d p =
    (IsPart T place e d p.least × IsPart T place d e p.other) ⊎ (IsPart T place d e p.least × IsPart T place e d p.other)

-- The requests e and d have this pattern. The lesser part comes first, so two rotations of a cycle have one pattern.
pub record HasPattern (T : List Event) (place : ℕ → ℕ) (e d : ℕ) (p : Pattern) : Type 0 where
  pub parts : HaveParts T place e d p
  pub arranged : ¬ IsPartBefore p.other p.least

-- the four locations of a pattern
abbrev pub locations_of : Pattern → List ℕ
locations_of p = p.least.hold ∷ p.least.request ∷ p.other.hold ∷ p.other.request ∷ []
