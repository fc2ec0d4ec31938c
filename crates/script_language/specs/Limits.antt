-- The limits of numbers and lines in a script. The constants of the code are compared with these numbers.
use Rattle.std.specs.Prelude.{ℕ}

-- the greatest number that a word can write
abbrev pub number_limit : ℕ
number_limit = 4294967295

-- the most bytes of a line, without the blanks at its ends
abbrev pub script_line_limit : ℕ
script_line_limit = 65536
