-- The answer that gives a schedule which shows a pair. All texts are this project's own. `r` is a recording.
use Rattle.std.specs.Prelude.{◌≡◌, ◌⊎◌, ℕ, List, ◌++◌, codes, max, min}
use Rattle.rapid_text.specs.Recording.{Recording}
use Rattle.event_index.specs.Relations.{IsConflicting}
use Rattle.explain_report.specs.declared.verdict.How.{How}
use Rattle.explain_report.specs.declared.verdict.How.TheVariants.{Candidate, Beyond, Turned}
use Rattle.explain_report.specs.findings.Findings.{IsFinding, IsNeverShown}
use Rattle.explain_report.specs.declared.findings.finding.Finding.{Finding}
use Rattle.explain_report.specs.declared.findings.finding.Finding.TheVariants.{Race, Forced, Guarded, Contradicted, Undecided}
use Rattle.report.specs.Pieces.{spaced}

-- the text for how a race was found
abbrev pub how_words : How → List ℕ
how_words Candidate = codes "witness candidate"
how_words Beyond = codes "witness beyond"
how_words Turned = codes "witness turned"

-- the answer for a finding: the events of the schedule, or the reason why the answer has no schedule
abbrev pub found_line : Finding → List ℕ
found_line (Race how events) = how_words how ++ spaced events ++ codes "\n"
found_line (Forced chains) = codes "refused 99 not shown: forced\n"
found_line (Guarded lock) = codes "refused 99 not shown: guarded\n"
found_line (Contradicted steps) = codes "refused 99 not shown: open\n"
found_line (Undecided events) = codes "refused 99 not shown: open\n"

-- The answer about two events: that they are not two conflicting events, or what was found for them, the earlier one
-- first. The answer for a race is a correct reordering that shows the pair. If the answer is forced or guarded, no
-- correct reordering shows the pair.
abbrev pub IsWitnessLine : Recording → ℕ → ℕ → List ℕ → Type 0
IsWitnessLine r one other text =
    ((text ≡ codes "refused 98 no such pair\n") × ¬ IsConflicting r.events (min one other) (max one other))
    ⊎ (IsConflicting r.events (min one other) (max one other)
    × (finding : Finding) × IsFinding r (min one other) (max one other) finding
    × IsNeverShown r.events (min one other) (max one other) finding × (text ≡ found_line finding))

-- the answer for what was found of the two events was appended
abbrev pub AppendsFound : Recording → ℕ → ℕ → List ℕ → List ℕ → Type 0
AppendsFound r first second old new =
    (finding : Finding)
    × IsFinding r first second finding
    × IsNeverShown r.events first second finding
    × (new ≡ old ++ found_line finding)
