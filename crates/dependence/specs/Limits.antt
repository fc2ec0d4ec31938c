-- How many clients there may be. A clause compares the constant of the code with this number.
use Rattle.std.specs.Prelude.{ℕ}

-- the greatest number of a client; the least is 1
abbrev pub client_limit : ℕ
client_limit = 32
