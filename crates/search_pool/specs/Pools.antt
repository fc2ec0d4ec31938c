-- A pool as contracts see it, and the effect of a request and of an answer on it. This project's own.
use Rattle.std.specs.Prelude.{◌≡◌, ◌≢◌, ℕ, ◌+◌, ◌<◌, ◌≤◌, ◌⊎◌, List, [], ◌∷◌, ◌++◌, length, All, AllPairs}
use Rattle.rapid_text.specs.Recording.{Recording}
use Rattle.search_pool.specs.Limits.{pending_limit, request_limit}
use Rattle.search_pool.specs.Outcomes.{IsOutcomeOf}
use Rattle.search_pool.specs.declared.outcome.Found.{Found}
use Rattle.search_pool.specs.declared.request.Posed.{Posed}
use Rattle.search_pool.specs.declared.request.Request.{Request}

-- the trace, the number of requests submitted, and the requests without an answer, the oldest first
pub record Pooled : Type 0 where
  pub trace : Recording
  pub submitted : ℕ
  pub pending : List Posed

-- the numbers of pending requests rise
abbrev pub AreRising : List Posed → Type 0
AreRising pending = AllPairs (λ p q. p.number < q.number) pending

-- what holds for each pool
pub record IsPooled (submitted : ℕ) (pending : List Posed) : Type 0 where
  pub few : length pending ≤ pending_limit
  pub below : All (λ p. p.number < submitted) pending
  pub rising : AreRising pending

-- no further request is accepted: 64 are pending, or the most were submitted
abbrev pub IsFull : Pooled → Type 0
IsFull pool = (length pool.pending ≡ pending_limit) ⊎ (pool.submitted ≡ request_limit)

-- the request gets the number n, and is pending after the others
pub record Submits (before : Pooled) (request : Request) (n : ℕ) (after : Pooled) : Type 0 where
  pub number : n ≡ before.submitted
  pub trace : after.trace ≡ before.trace
  pub submitted : after.submitted ≡ before.submitted + 1
  pub pending : after.pending ≡ before.pending ++ (record { number = n; request = request }) ∷ []

-- the request is one of `before`, and the others stay
pub record IsTaken (posed : Posed) (before after : List Posed) : Type 0 where
  pub earlier : List Posed
  pub later : List Posed
  pub there : before ≡ earlier ++ posed ∷ later
  pub left : after ≡ earlier ++ later

-- the answer is right for a pending request, and has its number and pair; only that request stops pending
pub record Collects (before : Pooled) (found : Found) (after : Pooled) : Type 0 where
  pub posed : Posed
  pub taken : IsTaken posed before.pending after.pending
  pub number : found.request ≡ posed.number
  pub first : found.first ≡ posed.request.first
  pub second : found.second ≡ posed.request.second
  pub outcome : IsOutcomeOf before.trace.events posed.request found.outcome
  pub trace : after.trace ≡ before.trace
  pub submitted : after.submitted ≡ before.submitted
  pub gone : All (λ p. p.number ≢ found.request) after.pending
