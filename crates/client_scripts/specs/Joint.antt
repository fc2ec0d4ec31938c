-- The two parts of a joint text: a trace, a line `---`, and a script.
use Rattle.std.specs.Prelude.{ℕ, ◌+◌, Bool, List, [], ◌++◌, take, drop, flat_map, position, Option, Some, None, codes, bytes_eq}
use Rattle.std.specs.List.{slice_split, join_with_byte}
use Rattle.rapid_text.specs.Reading.{is_line_feed, trimmed}

-- `---`, with or without blanks around it
abbrev pub is_divider : List ℕ → Bool
is_divider line = bytes_eq (trimmed line) (codes "---")

-- the line and a line feed
abbrev pub ended : List ℕ → List ℕ
ended line = line ++ codes "\n"

abbrev pub lines_of : List ℕ → List (List ℕ)
lines_of text = slice_split is_line_feed text

abbrev pub trace_by : List ℕ → Option ℕ → List ℕ
trace_by text None = text
trace_by text (Some k) = flat_map ended (take k (lines_of text))

abbrev pub script_by : List ℕ → Option ℕ → List ℕ
script_by text None = []
script_by text (Some k) = join_with_byte 10 (drop (k + 1) (lines_of text))

-- the trace: the lines before the first divider, or the whole text if it has no divider
unfoldable pub trace_part : List ℕ → List ℕ
trace_part text = trace_by text (position is_divider (lines_of text))

-- the script: the text after the first divider; empty if the text has no divider
unfoldable pub script_part : List ℕ → List ℕ
script_part text = script_by text (position is_divider (lines_of text))
