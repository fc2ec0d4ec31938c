-- How long a log may be. A clause compares the constant of the code with this number.
use Rattle.std.specs.Prelude.{ℕ}

-- the most entries of a log
abbrev pub entry_limit : ℕ
entry_limit = 1000000
