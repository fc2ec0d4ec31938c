-- What the greedy search knows while it runs. No public clause cites this module. `T` is the events of a trace.
use Rattle.std.specs.Prelude.{◌≡◌, ◌≢◌, ℕ, ◌-◌, ◌<◌, ◌⊎◌, ◌↔◌, ◌&&◌, nat_lt, if◌then◌else◌, Bool, true, false, List, length, slice_get, slice_index, slice_index_or, Option, Some, None, AllPairs, Contains}
use Rattle.rapid_text.specs.declared.event.Event.{Event}
use Rattle.rapid_text.specs.declared.event.Op.{Op}
use Rattle.rapid_text.specs.declared.event.Op.TheVariants.{Read, Acquire, Join}
use Rattle.event_index.specs.Events.{op_at, thread_at}
use Rattle.event_index.specs.Lookups.{events_of, fork_of, or_else, base_of, last_writer, section_end}
use Rattle.schedule.specs.Refusals.{is_in}
use Rattle.schedule.specs.Reordering.{IsPrefix}
use Rattle.witness_search.specs.Greedy.{may_take}
use Rattle.witness_search.specs.Layout.{kept}
use Rattle.witness_search.specs.Wanted.{IsWanted}

-- the last event of the thread; if it has none, the event that forks it
abbrev pub end_of : List Event → ℕ → Option ℕ
end_of T u = or_else (slice_get (events_of T u) (length (events_of T u) - 1)) (fork_of T u)

abbrev pub partner_by : List Event → ℕ → Option Op → Option ℕ
partner_by T e (Some (Read x)) = last_writer T e
partner_by T e (Some (Acquire l)) = section_end T e
partner_by T e (Some (Join u)) = end_of T u
partner_by T e op = None

-- what e requires because of what it does: its writer, the end of its section, or the end of the thread that it joins
abbrev pub partner_of : List Event → ℕ → Option ℕ
partner_of T e = partner_by T e (op_at T e)

-- the events that the search visits from e; these require in turn all else that e requires
abbrev pub IsSought : List Event → ℕ → ℕ → Type 0
IsSought T e d = (base_of T e ≡ Some d) ⊎ (partner_of T e ≡ Some d)

abbrev pub is_marked : List Bool → ℕ → Bool
is_marked marks e = slice_index_or marks e false

-- P has numbers below the length of the marks, each once, and the marks are those of P
pub record AreFound (P : List ℕ) (marks : List Bool) : Type 0 where
  pub marked : (e : ℕ) → is_marked marks e ≡ is_in P e
  pub within : (e : ℕ) → Contains P e → e < length marks
  pub distinct : AllPairs (λ x y. x ≢ y) P

-- ys begins with xs, has all members of Q, and has nothing else
pub record Adds (Q : ℕ → Type 0) (xs ys : List ℕ) : Type 0 where
  pub begins : IsPrefix xs ys
  pub has : (e : ℕ) → Q e → Contains ys e
  pub only : (e : ℕ) → Contains ys e → Contains xs e ⊎ Q e

-- P has all events that the search visits from its first k events
abbrev pub IsClosedUpTo : List Event → ℕ → List ℕ → Type 0
IsClosedUpTo T k P = (i d : ℕ) → i < k → IsSought T (slice_index P i) d → Contains P d

-- P has the bases of the pair; all its events are wanted
pub record IsBegun (T : List Event) (a b : ℕ) (P : List ℕ) : Type 0 where
  pub first : (e : ℕ) → base_of T a ≡ Some e → Contains P e
  pub second : (e : ℕ) → base_of T b ≡ Some e → Contains P e
  pub wanted : (e : ℕ) → Contains P e → IsWanted T a b e

-- the marks are those of the wanted events
pub record TellWanted (T : List Event) (a b : ℕ) (marks : List Bool) : Type 0 where
  pub len : length marks ≡ length T
  pub marked : (e : ℕ) → (is_marked marks e ≡ true) ↔ IsWanted T a b e

-- the marked events, in rising order
abbrev pub marked_events : List Event → List Bool → List ℕ
marked_events T marks = kept (is_marked marks) (length T)

-- whether the search may take e; it takes the least such event
abbrev pub is_step : List Event → ℕ → ℕ → List Bool → List ℕ → ℕ → Bool
is_step T a b marks P e = is_marked marks e && may_take T a b P e

-- the lesser of two numbers, or the one that exists
abbrev pub lesser : Option ℕ → Option ℕ → Option ℕ
lesser None other = other
lesser (Some x) None = Some x
lesser (Some x) (Some y) = if nat_lt y x then Some y else Some x

-- e is a step, and is of thread t
pub record IsStepOf (T : List Event) (a b : ℕ) (marks : List Bool) (P : List ℕ) (t e : ℕ) : Type 0 where
  pub step : is_step T a b marks P e ≡ true
  pub of_thread : thread_at T e ≡ Some t

-- e is a step, and is of a thread below n
abbrev pub IsStepBelow : List Event → ℕ → ℕ → List Bool → List ℕ → ℕ → ℕ → Type 0
IsStepBelow T a b marks P n e = (t : ℕ) × (t < n) × IsStepOf T a b marks P t e
