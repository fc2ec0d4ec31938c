-- The most bytes of a line and of a name, and the largest trace. The proofs compare the constants of the code with
-- these numbers.
use Rattle.std.specs.Prelude.{ℕ, ◌*◌}

-- the most events of a trace
abbrev pub event_limit : ℕ
event_limit = 1048576

-- the most threads of a trace
abbrev pub thread_limit : ℕ
thread_limit = 256

-- A table of names has fewer names than this. Each event brings at most two names, so each name's number fits in a
-- u32.
abbrev pub name_count_limit : ℕ
name_count_limit = 2 * event_limit

-- the most bytes of a line, not counting the blanks at its ends
abbrev pub line_limit : ℕ
line_limit = 4096

-- the most bytes of a name
abbrev pub name_limit : ℕ
name_limit = 255
