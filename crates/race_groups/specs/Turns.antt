-- Counting in turns: each of several workers counts the numbers that leave its own remainder.
use Rattle.std.specs.Prelude.{ℕ, ◌%◌, ◌==◌, cond, sum_by}
use Rattle.event_index.specs.Lookups.{before}

-- the value of number n, if it leaves this remainder; otherwise 0
abbrev pub in_turn : ℕ → ℕ → (ℕ → ℕ) → ℕ → ℕ
in_turn every from f n = cond (n % every == from) (f n) 0

-- the sum of the same for the numbers below n
abbrev pub turns_of : ℕ → ℕ → (ℕ → ℕ) → ℕ → ℕ
turns_of every from f n = sum_by (in_turn every from f) (before n)
