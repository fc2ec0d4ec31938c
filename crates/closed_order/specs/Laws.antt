-- What the closed order says about every correct reordering. `T` is the trace, `P` is a list of event numbers, and `es`
-- are the requests.
use Rattle.std.specs.Prelude.{ℕ, List, [], ◌∷◌, Option, Some, None, Contains}
use Rattle.rapid_text.specs.declared.event.Event.{Event}
use Rattle.trace_rules.specs.Rules.{IsDisciplined}
use Rattle.schedule.specs.Reordering.{IsCorrectReordering}
use Rattle.schedule.specs.Shows.{Shows}
use Rattle.must_order.specs.Laws.{StandsBefore}
use Rattle.lock_waits.specs.Waits.{AreReady, ShowsDeadlock}
use Rattle.closed_order.specs.Closed.{AreContradicted, Precedes}

-- d is in P; or, if an event e is given, d comes before e if P has e
abbrev pub IsKept : List ℕ → ℕ → Option ℕ → Type 0
IsKept P d None = Contains P d
IsKept P d (Some e) = Contains P e → StandsBefore P d e

-- each correct reordering after which the requests are next keeps their order
abbrev pub PrecedesIsKept : Type 0
PrecedesIsKept =
    (T : List Event) (P es : List ℕ) (d : ℕ) (x : Option ℕ)
    → IsDisciplined T
    → IsCorrectReordering T P
    → AreReady T P es
    → Precedes T es d x
    → IsKept P d x

-- so contradicted requests are next after no correct reordering
abbrev pub ContradictedIsNeverReady : Type 0
ContradictedIsNeverReady =
    (T : List Event) (P es : List ℕ)
    → IsDisciplined T
    → IsCorrectReordering T P
    → AreContradicted T es
    → ¬ AreReady T P es

-- no correct reordering shows two contradicted accesses, in either order
abbrev pub ContradictedIsNeverShown : Type 0
ContradictedIsNeverShown =
    (T : List Event) (P : List ℕ) (a b : ℕ)
    → IsDisciplined T
    → IsCorrectReordering T P
    → AreContradicted T (a ∷ b ∷ [])
    → (¬ Shows T P a b) × (¬ Shows T P b a)

-- nor a deadlock with contradicted requests
abbrev pub ContradictedIsNoDeadlock : Type 0
ContradictedIsNoDeadlock =
    (T : List Event) (P es : List ℕ)
    → IsDisciplined T
    → IsCorrectReordering T P
    → AreContradicted T es
    → ¬ ShowsDeadlock T P es
