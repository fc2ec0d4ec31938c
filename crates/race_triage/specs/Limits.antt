-- The numbers of this crate's contracts. The proofs compare the constants of the code with them.
use Rattle.std.specs.Prelude.{ℕ}

-- the most pairs of locations with conflicting events
abbrev pub place_pair_limit : ℕ
place_pair_limit = 1048576

-- how many open pairs of events are tried for a pair of locations, if nobody gives a number
abbrev pub usual_tries : ℕ
usual_tries = 16
