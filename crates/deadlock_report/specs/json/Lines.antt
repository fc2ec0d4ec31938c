-- The lines of JSON that tell the verdicts on deadlocks. `r` is the trace's recording. All notions here are this
-- project's own.
use Rattle.std.specs.Prelude.{◌≡◌, cond, List, ℕ, [], ◌++◌, flat_map, codes}
use Rattle.rapid_text.specs.Recording.{Recording}
use Rattle.triage_report.specs.json.Lines.{json_line, left_out_line}
use Rattle.deadlock_triage.specs.declared.outcomes.Verdict.{Verdict}
use Rattle.deadlock_triage.specs.declared.verdicts.Deadlocks.{Deadlocks}
use Rattle.deadlock_report.specs.Counts.{is_of, AreCountsIn}
use Rattle.deadlock_report.specs.declared.chosen.Chosen.{Chosen}
use Rattle.deadlock_report.specs.declared.counts.Counts.{Counts}
use Rattle.deadlock_report.specs.declared.kinds.Kind.{Kind}
use Rattle.deadlock_report.specs.declared.kinds.Kind.TheVariants.{Shown, Open, Never}
use Rattle.deadlock_report.specs.json.Objects.{counts_object, verdict_object}

-- the line of a verdict if it is of this kind
abbrev pub line_if : Recording → Kind → Verdict → List ℕ
line_if r k v = cond (is_of k v) (json_line (verdict_object r v)) []

-- the lines of the verdicts of this kind
abbrev pub kind_lines : Recording → Kind → List Verdict → List ℕ
kind_lines r k vs = flat_map (line_if r k) vs

-- the lines of all verdicts: deadlocks, then undecided patterns, then patterns that are apart
abbrev pub verdict_lines : Recording → List Verdict → List ℕ
verdict_lines r vs = kind_lines r Shown vs ++ kind_lines r Open vs ++ kind_lines r Never vs

-- the counts of all verdicts, a line for each chosen one, and how many were left out
abbrev pub deadlocks_lines : Recording → Counts → Chosen → List ℕ
deadlocks_lines r c chosen =
    json_line (counts_object c) ++ verdict_lines r chosen.verdicts.items ++ left_out_line (codes "known") chosen.known
    ++ left_out_line (codes "hidden") chosen.hidden

-- The text lists the chosen verdicts, and counts all verdicts.
pub record IsDeadlocksJson (r : Recording) (found : Deadlocks) (chosen : Chosen) (text : List ℕ) : Type 0 where
  pub counts : Counts
  pub counted : AreCountsIn r found counts
  pub printed : text ≡ deadlocks_lines r counts chosen
