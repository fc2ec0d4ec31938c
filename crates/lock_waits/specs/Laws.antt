-- What a deadlock says about every correct reordering. `T` is the trace; `P` and `Q` are lists of event numbers, and
-- `es` are the requests.
use Rattle.std.specs.Prelude.{◌≡◌, ℕ, List, Some, Contains}
use Rattle.rapid_text.specs.declared.event.Event.{Event}
use Rattle.trace_rules.specs.Rules.{IsDisciplined}
use Rattle.event_index.specs.Events.{thread_at}
use Rattle.schedule.specs.Refusals.{IsOnlyHolder, refusal_of}
use Rattle.schedule.specs.Reordering.{IsCorrectReordering, IsPrefix}
use Rattle.schedule.specs.Shows.{IsReady}
use Rattle.schedule.specs.declared.refusal.Disabled.TheVariants.{LockHeld}
use Rattle.must_order.specs.MustBefore.{IsForced, IsGuarded}
use Rattle.lock_waits.specs.Required.{IsRequired, AreRefuted}
use Rattle.lock_waits.specs.Waits.{AreOfTwoThreads, AreReady, ShowsDeadlock, WaitsFor}

-- a deadlock never ends: no correct reordering that begins with P has one of its requests
abbrev pub DeadlockStays : Type 0
DeadlockStays =
    (T : List Event) (P Q es : List ℕ) (e : ℕ)
    → IsCorrectReordering T Q
    → IsPrefix P Q
    → ShowsDeadlock T P es
    → Contains es e
    → ¬ Contains Q e

-- Let e and d be next after P, and let e wait for d, which is of thread u, another one. Then u holds the lock and no
-- other thread does, and e is refused because of that.
abbrev pub ShownIsHeld : Type 0
ShownIsHeld =
    (T : List Event) (P : List ℕ) (e d u : ℕ)
    → IsCorrectReordering T P
    → IsReady T P e
    → IsReady T P d
    → (waits : WaitsFor T e d)
    → AreOfTwoThreads T e d
    → thread_at T d ≡ Some u
    → IsOnlyHolder T P waits.lock u × (refusal_of T P e ≡ Some (LockHeld u))

-- no correct reordering shows a deadlock in which two threads hold one lock, or an event is forced before a request
abbrev pub GuardedIsNeverShown : Type 0
GuardedIsNeverShown =
    (T : List Event) (P es : List ℕ) (e d : ℕ)
    → IsCorrectReordering T P
    → Contains es e
    → Contains es d
    → AreOfTwoThreads T e d
    → IsGuarded T e d
    → ¬ ShowsDeadlock T P es

abbrev pub ForcedIsNeverShown : Type 0
ForcedIsNeverShown =
    (T : List Event) (P es : List ℕ) (e d : ℕ)
    → IsDisciplined T
    → IsCorrectReordering T P
    → Contains es e
    → Contains es d
    → IsForced T e d
    → ¬ ShowsDeadlock T P es

-- each correct reordering after which the requests are next has what they require
abbrev pub RequiredIsThere : Type 0
RequiredIsThere =
    (T : List Event) (P es : List ℕ) (d : ℕ)
    → IsDisciplined T
    → IsCorrectReordering T P
    → AreReady T P es
    → IsRequired T es d
    → Contains P d

-- so no correct reordering shows a deadlock whose requests require what cannot be
abbrev pub RefutedIsNeverShown : Type 0
RefutedIsNeverShown =
    (T : List Event) (P es : List ℕ)
    → IsDisciplined T
    → IsCorrectReordering T P
    → AreRefuted T es
    → ¬ ShowsDeadlock T P es
