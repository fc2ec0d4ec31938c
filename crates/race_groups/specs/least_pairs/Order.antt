-- The order of pairs of events, each given by its later event and then by its earlier one. Both notions are this
-- project's own.
use Rattle.std.specs.Prelude.{◌≡◌, ◌⊎◌, ℕ, ◌<◌, ◌≤◌}

-- p is q, or comes before it: by the later event, and then by the earlier
abbrev pub IsUpTo : ℕ × ℕ → ℕ × ℕ → Type 0
IsUpTo p q = (p.0 < q.0) ⊎ ((p.0 ≡ q.0) × (p.1 ≤ q.1))

-- p comes before q
abbrev pub IsAhead : ℕ × ℕ → ℕ × ℕ → Type 0
IsAhead p q = (p.0 < q.0) ⊎ ((p.0 ≡ q.0) × (p.1 < q.1))
