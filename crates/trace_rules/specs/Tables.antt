-- What the tables mean after the events so far. No public clause cites this module.
use Rattle.std.specs.Prelude.{◌≡◌, ℕ, ◌+◌, ◌<◌, ◌==◌, if◌then◌else◌, List, [], ◌∷◌, ◌++◌, length, take, slice_get, Option, Some, None}
use Rattle.std.specs.List.{list_any}
use Rattle.std.specs.Bool.{⊤}
use Rattle.rapid_text.specs.Operations.{is_fork, is_join}
use Rattle.rapid_text.specs.Recording.{Recording}
use Rattle.rapid_text.specs.declared.event.Event.{Event}
use Rattle.rapid_text.specs.declared.event.Op.TheVariants.{Acquire, Release}
use Rattle.trace_rules.specs.Rules.{acquire_count, release_count}
use Rattle.trace_rules.specs.declared.hold.Hold.{Hold}
use Rattle.trace_rules.specs.declared.life.Life.{Life}
use Rattle.trace_rules.specs.declared.state.State.{State}

-- how many holds the thread t has of a lock with this owner and depth
abbrev pub depth_for : Option ℕ → ℕ → ℕ → ℕ
depth_for None depth t = 0
depth_for (Some owner) depth t = if owner == t then depth else 0

-- a lock has an owner exactly if its depth is above 0
abbrev pub IsDepthOf : Option ℕ → ℕ → Type 0
IsDepthOf None depth = depth ≡ 0
IsDepthOf (Some owner) depth = 0 < depth

-- After the events es, the lock l is held as h says, and no other thread holds it.
pub record IsHoldOf (es : List Event) (l : ℕ) (h : Hold) : Type 0 where
  pub counts : (t : ℕ) → acquire_count es t l ≡ release_count es t l + depth_for h.owner h.depth t
  pub depth : IsDepthOf h.owner h.depth

-- the thread t may acquire a lock with this owner
abbrev pub IsOpenFor : ℕ → Option ℕ → Type 0
IsOpenFor t None = ⊤
IsOpenFor t (Some owner) = owner ≡ t

abbrev pub IsOpenTo : ℕ → Hold → Type 0
IsOpenTo t h = IsOpenFor t h.owner

-- After the events es, the life of the thread t is s.
pub record IsLifeOf (es : List Event) (t : ℕ) (s : Life) : Type 0 where
  pub has_event : s.has_event ≡ list_any (λ e. e.thread == t) es
  pub was_forked : s.was_forked ≡ list_any (λ e. is_fork t e.op) es
  pub was_joined : s.was_joined ≡ list_any (λ e. is_join t e.op) es

-- each lock's hold after the events es; the lock's number is the index
abbrev pub AreHoldsOf : List Event → List Hold → Type 0
AreHoldsOf es holds = (l : ℕ) (h : Hold) → slice_get holds l ≡ Some h → IsHoldOf es l h

-- each thread's life after the events es; the thread's number is the index
abbrev pub AreLivesOf : List Event → List Life → Type 0
AreLivesOf es lives = (t : ℕ) (s : Life) → slice_get lives t ≡ Some s → IsLifeOf es t s

-- The tables after the first i events of the recording r.
pub record IsStateOf (r : Recording) (i : ℕ) (s : State) : Type 0 where
  pub locks : length s.holds.items ≡ length r.locks
  pub threads : length s.lives.items ≡ length r.threads
  pub holds : AreHoldsOf (take i r.events) s.holds.items
  pub lives : AreLivesOf (take i r.events) s.lives.items

-- Q holds after any events es, and for any lock l, that leave the hold h
abbrev pub AfterHold : Hold → (List Event → ℕ → Type 0) → Type 0
AfterHold h Q = (es : List Event) (l : ℕ) → IsHoldOf es l h → Q es l

-- an acquire by thread t turns the hold h into next
abbrev pub IsTakenBy : Hold → ℕ → Hold → Type 0
IsTakenBy h t next =
    (es : List Event) (l : ℕ) (e : Event)
    → e.thread ≡ t → e.op ≡ Acquire l → IsHoldOf es l h → IsHoldOf (es ++ e ∷ []) l next

-- a release by thread t turns the hold h into next
abbrev pub IsLetGoBy : Hold → ℕ → Hold → Type 0
IsLetGoBy h t next =
    (es : List Event) (l : ℕ) (e : Event)
    → e.thread ≡ t → e.op ≡ Release l → IsHoldOf es l h → IsHoldOf (es ++ e ∷ []) l next
