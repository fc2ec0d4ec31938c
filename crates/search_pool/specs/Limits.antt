-- The most workers of a pool, and the most requests. The proofs compare the constants of the code with these numbers.
use Rattle.std.specs.Prelude.{ℕ}

-- the most workers of a pool
abbrev pub worker_limit : ℕ
worker_limit = 32

-- the most requests that are pending at a time
abbrev pub pending_limit : ℕ
pending_limit = 64

-- the most requests of a pool, so that each number fits in a u32
abbrev pub request_limit : ℕ
request_limit = 4294967295
