-- The number of calls that a seat may make. The constants of the code are compared with this number.
use Rattle.std.specs.Prelude.{ℕ}

-- the most calls of one seat
abbrev pub turn_limit : ℕ
turn_limit = 4294967295
