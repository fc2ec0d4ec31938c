-- The rest of a text whose lines are taken one by one. No public clause cites this module.
use Rattle.std.specs.Prelude.{ℕ, List, [], Option, Some, None}
use Rattle.std.specs.List.{slice_split}
use denote.Ref.{Bor}
use Rattle.rapid_text.specs.Reading.{is_line_feed}

-- the lines that are left; none after the last line, which has no line feed
abbrev pub lines_left : Option (Bor (List ℕ)) → List (List ℕ)
lines_left None = []
lines_left (Some text) = slice_split is_line_feed text.now
