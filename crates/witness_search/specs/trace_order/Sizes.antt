-- The length of a list, and its number of threads. `T` is the events of a trace, `P` a list of event numbers.
use Rattle.std.specs.Prelude.{◌≡◌, ◌↔◌, ℕ, ◌<◌, List, length, Some, AllPairs, Contains}
use Rattle.rapid_text.specs.declared.event.Event.{Event}
use Rattle.event_index.specs.Events.{thread_at}
use Rattle.witness_search.specs.trace_order.InOrder.{IsInOrder}

-- P has an event of thread t
abbrev pub HasThread : List Event → List ℕ → ℕ → Type 0
HasThread T P t = (e : ℕ) × Contains P e × (thread_at T e ≡ Some t)

-- ts are the threads that have an event in P, each once
pub record AreThreadsOf (T : List Event) (P ts : List ℕ) : Type 0 where
  pub rising : AllPairs (λ x y. x < y) ts
  pub members : (t : ℕ) → Contains ts t ↔ HasThread T P t

-- P has n events, of k different threads
pub record HasSize (T : List Event) (P : List ℕ) (n k : ℕ) : Type 0 where
  pub events : length P ≡ n
  pub threads : List ℕ
  pub are : AreThreadsOf T P threads
  pub count : length threads ≡ k

-- the pair's list in order has this size
abbrev pub IsSizeInOrder : List Event → ℕ → ℕ → ℕ × ℕ → Type 0
IsSizeInOrder T a b (n, k) = (P : List ℕ) × IsInOrder T a b P × HasSize T P n k
