-- The printed forms of a schedule that shows a pair: its events, a script that makes it, or a separate trace.
use Rattle.std.specs.Prelude.{ℕ, List, [], ◌∷◌, ◌++◌, flat_map, codes, decimal}
use Rattle.rapid_text.specs.Recording.{Recording}
use Rattle.explain_report.specs.EventLines.{event_lines, numbered_lines}
use Rattle.explain_report.specs.declared.witness.Form.{Form}
use Rattle.explain_report.specs.declared.witness.Form.TheVariants.{Events, Script, Trace}

-- the line of a script that appends event e
abbrev pub add_line : ℕ → List ℕ
add_line e = codes "1 add S " ++ decimal e ++ codes "\n"

-- the lines that append these events
abbrev pub add_lines : List ℕ → List ℕ
add_lines es = flat_map add_line es

-- a script that builds the schedule P, and prints the pairs that it shows
abbrev pub script_lines : List ℕ → List ℕ
script_lines P = codes "1 new S\n" ++ add_lines P ++ codes "1 races S\n"

-- a trace of the events of the schedule P and of the pair a, b
abbrev pub trace_lines : Recording → List ℕ → ℕ → ℕ → List ℕ
trace_lines r P a b = event_lines r P ++ event_lines r (a ∷ b ∷ [])

-- the schedule P that shows the pair a, b, in this form: its events, each after its number; a script of one client
-- that builds it and prints the pairs that it shows; or the canonical lines of its events and of the pair
abbrev pub witness_lines : Recording → List ℕ → ℕ → ℕ → Form → List ℕ
witness_lines r P a b Events = numbered_lines r P
witness_lines r P a b Script = script_lines P
witness_lines r P a b Trace = trace_lines r P a b
