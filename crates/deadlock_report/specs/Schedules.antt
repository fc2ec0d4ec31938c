-- The printed forms of a schedule that shows two requests which wait for each other. `r` is the trace's recording, `P`
-- the events of the schedule, `a` and `b` the requests.
use Rattle.std.specs.Prelude.{ℕ, List, [], ◌∷◌, ◌++◌, codes}
use Rattle.rapid_text.specs.Recording.{Recording}
use Rattle.explain_report.specs.EventLines.{event_lines, numbered_lines}
use Rattle.explain_report.specs.Witnesses.{add_lines}
use Rattle.explain_report.specs.declared.witness.Form.{Form}
use Rattle.explain_report.specs.declared.witness.Form.TheVariants.{Events, Script, Trace}

-- a script that builds the schedule, and then adds each request, which is refused
abbrev pub refused_script : List ℕ → ℕ → ℕ → List ℕ
refused_script P a b = codes "1 new S\n" ++ add_lines P ++ add_lines (a ∷ b ∷ [])

-- The schedule in this form: its events, each after its number; a script that builds it and adds both requests; or the
-- canonical lines of its events.
abbrev pub schedule_lines : Recording → List ℕ → ℕ → ℕ → Form → List ℕ
schedule_lines r P a b Events = numbered_lines r P
schedule_lines r P a b Script = refused_script P a b
schedule_lines r P a b Trace = event_lines r P
