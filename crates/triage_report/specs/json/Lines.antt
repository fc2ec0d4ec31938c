-- The lines of JSON that tell what was found. `r` is the trace's recording.
use Rattle.std.specs.Prelude.{◌≡◌, ℕ, List, [], ◌++◌, flat_map, codes, Option, Some, None}
use Rattle.rapid_text.specs.Recording.{Recording}
use Rattle.serde_json.specs.Data.{Data}
use Rattle.serde_json.specs.Written.{compact_text}
use Rattle.triage_report.specs.json.Objects.{counts_object, left_out_object, verdict_object}
use Rattle.race_triage.specs.Texts.{AreTotals}
use Rattle.race_triage.specs.declared.totals.Totals.{Totals}
use Rattle.race_triage.specs.declared.chosen.Chosen.{Chosen}
use Rattle.race_triage.specs.declared.verdicts.Verdict.{Verdict}
use Rattle.race_triage.specs.declared.verdicts.Verdicts.{Verdicts}

-- an object's text, and the end of its line
abbrev pub json_line : Data → List ℕ
json_line d = compact_text d ++ codes "\n"

-- a line for each verdict
abbrev pub verdict_lines : Recording → List Verdict → List ℕ
verdict_lines r vs = flat_map (λ v. json_line (verdict_object r v)) vs

-- how many verdicts were left out, if there is such a number
abbrev pub left_out_line : List ℕ → Option ℕ → List ℕ
left_out_line kind None = []
left_out_line kind (Some n) = json_line (left_out_object kind n)

-- the counts, a line for each chosen verdict, and how many were left out
abbrev pub triage_lines : Recording → Totals → Chosen → List ℕ
triage_lines r t c =
    json_line (counts_object t) ++ verdict_lines r c.verdicts.items ++ left_out_line (codes "known") c.known ++ left_out_line (codes "hidden") c.hidden

-- The text lists the chosen verdicts, and counts all.
pub record IsTriageJson (r : Recording) (vs : List Verdict) (c : Chosen) (text : List ℕ) : Type 0 where
  pub totals : Totals
  pub counted : AreTotals r vs totals
  pub printed : text ≡ triage_lines r totals c

-- the same for what was found
abbrev pub IsJsonOf : Recording → Verdicts → Chosen → List ℕ → Type 0
IsJsonOf r found c text = IsTriageJson r found.verdicts.items c text
