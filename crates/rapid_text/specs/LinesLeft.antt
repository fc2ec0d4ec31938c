-- What is left of a text while it is read line by line. No public clause cites this module.
use Rattle.std.specs.Prelude.{ℕ, ◌+◌, List, [], length, Option, Some, None}
use Rattle.std.specs.List.{slice_split}
use denote.Ref.{Bor}
use Rattle.rapid_text.specs.Reading.{is_line_feed}
use Rattle.rapid_text.specs.Refusals.{no_memory}
use Rattle.rapid_text.specs.declared.recorder.Stop.{Stop}
use Rattle.rapid_text.specs.declared.recorder.Stop.TheVariants.{Fault, Memory}
use Rattle.rapid_text.specs.declared.refusal.TextRefusal.{TextRefusal}

-- the lines that are left; none after the last line, which has no line feed
abbrev pub lines_left : Option (Bor (List ℕ)) → List (List ℕ)
lines_left None = []
lines_left (Some text) = slice_split is_line_feed text.now

-- a measure of what is left
abbrev pub bytes_left : Option (Bor (List ℕ)) → ℕ
bytes_left None = 0
bytes_left (Some text) = length text.now + 1

-- the refusal if the reader stops at this line
abbrev pub refusal_for : ℕ → Stop → TextRefusal
refusal_for line (Fault why) = record { line = line; why = why }
refusal_for line Memory = no_memory
