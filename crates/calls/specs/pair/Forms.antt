-- In which forms a schedule is printed. `r` is a recording, P the schedule, and a, b the pair that it shows.
use Rattle.std.specs.Prelude.{◌≡◌, ℕ, List, Option, Some, None, MatchOption}
use Rattle.rapid_text.specs.Recording.{Recording}
use Rattle.explain_report.specs.Witnesses.{witness_lines}
use Rattle.explain_report.specs.declared.witness.Form.{Form as LinesForm}
use Rattle.explain_report.specs.declared.witness.Form.TheVariants.{Events as EventLines, Script as ScriptLines, Trace as TraceLines}
use Rattle.explain_report.specs.picture.Pictures.{IsPicture}
use Rattle.calls.specs.declared.pair.form.Form.{Form}
use Rattle.calls.specs.declared.pair.form.Form.TheVariants.{Events, Script, Trace, Svg}

-- the form of a text in lines; none of a picture
abbrev pub lines_form : Form → Option LinesForm
lines_form Events = Some EventLines
lines_form Script = Some ScriptLines
lines_form Trace = Some TraceLines
lines_form Svg = None

-- the text prints the schedule in this form
abbrev pub IsPrinted : Recording → List ℕ → ℕ → ℕ → Form → List ℕ → Type 0
IsPrinted r P a b form text = MatchOption (lines_form form) (IsPicture r P a b text) (λ lines. text ≡ witness_lines r P a b lines)
