-- Which chains show why an event is must-before another. `T` is the events of a trace, named by their numbers.
use Rattle.std.specs.Prelude.{◌≡◌, ◌≢◌, ℕ, ◌+◌, ◌≤◌, List, [], ◌∷◌, Some, All, slice_get}
use Rattle.rapid_text.specs.declared.event.Event.{Event}
use Rattle.rapid_text.specs.declared.event.Op.TheVariants.{Join}
use Rattle.event_index.specs.Events.{op_at, thread_at}
use Rattle.event_index.specs.Lookups.{last_writer, fork_of, base_of}
use Rattle.must_order.specs.MustBefore.{EndsFirst}
use Rattle.must_order.specs.declared.chains.Chain.{Chain}
use Rattle.must_order.specs.declared.chains.Reason.{Reason}
use Rattle.must_order.specs.declared.chains.Reason.TheVariants.{Later, Forked, Written, Joined, ForkJoined, Ended}
use Rattle.must_order.specs.declared.chains.Step.{Step}

-- event d comes before event e for this reason: d and e are a link of must-before, or d ends a section that has to
-- end before e if its beginning comes before e
abbrev pub IsReason : List Event → ℕ → ℕ → Reason → Type 0
IsReason T d e Later = (base_of T e ≡ Some d) × (thread_at T d ≡ thread_at T e)
IsReason T d e Forked = (base_of T e ≡ Some d) × (thread_at T d ≢ thread_at T e)
IsReason T d e Written = last_writer T e ≡ Some d
IsReason T d e Joined = (u : ℕ) × (op_at T e ≡ Some (Join u)) × (thread_at T d ≡ Some u)
IsReason T d e ForkJoined = (u : ℕ) × (op_at T e ≡ Some (Join u)) × (fork_of T u ≡ Some d)
IsReason T d e (Ended p) = EndsFirst T p d e

-- the steps lead from d to e; each begins at the event where the one before it ends
abbrev pub Lead : ℕ → List Step → ℕ → Type 0
Lead d [] e = d ≡ e
Lead d (s ∷ steps) e = (s.from ≡ d) × Lead s.to steps e

-- each step has its reason, and the steps lead from the first event of the chain to the last
pub record IsChain (T : List Event) (c : Chain) : Type 0 where
  pub reasons : All (λ s. IsReason T s.from s.to s.reason) c.steps.items
  pub leads : Lead c.first c.steps.items c.last

-- one of the chains from index i on leads from p to e
abbrev pub IsLedFrom : List Chain → ℕ → ℕ → ℕ → Type 0
IsLedFrom cs i p e = (k : ℕ) × (i ≤ k) × (c : Chain) × (slice_get cs k ≡ Some c) × (c.first ≡ p) × (c.last ≡ e)

-- The first chain leads from d to e. If a step ends a section, a later chain leads from the beginning of the section
-- to the step's second event. So no chain justifies itself.
pub record AreReasons (T : List Event) (d e : ℕ) (cs : List Chain) : Type 0 where
  pub first : (c : Chain) × (slice_get cs 0 ≡ Some c) × (c.first ≡ d) × (c.last ≡ e)
  pub chains : All (IsChain T) cs
  pub sections :
      (i : ℕ) (c : Chain) → slice_get cs i ≡ Some c
      → All (λ s. (p : ℕ) → s.reason ≡ Ended p → IsLedFrom cs (i + 1) p s.to) c.steps.items
