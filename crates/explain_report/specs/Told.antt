-- The text that is printed for a pair, after its verdict. `r` is a recording, `a` the earlier event, `b` the later.
-- All notions here are this project's own.
use Rattle.std.specs.Prelude.{◌≡◌, ℕ, Bool, List, ◌++◌, length, codes}
use Rattle.rapid_text.specs.Recording.{Recording}
use Rattle.must_order.specs.declared.chains.Chain.{Chain}
use Rattle.closed_order.specs.declared.steps.Step.{Step}
use Rattle.explain_report.specs.Accesses.{pair_text}
use Rattle.explain_report.specs.Causes.{AreTold}
use Rattle.explain_report.specs.Contradicted.{steps_text}
use Rattle.explain_report.specs.RunTexts.{AreRunsTold}
use Rattle.explain_report.specs.Runs.{run_total}
use Rattle.explain_report.specs.Sections.{IsSectionTold}
use Rattle.explain_report.specs.Verdicts.{contradicted_head, count_text, forced_head, guarded_head, race_head, undecided_head}
use Rattle.explain_report.specs.declared.verdict.How.{How}
use Rattle.explain_report.specs.declared.verdict.Verdict.{Verdict}
use Rattle.explain_report.specs.declared.verdict.Verdict.TheVariants.{Race, Forced, Guarded, Contradicted, Undecided}

-- a race that a schedule of n events in this many runs shows: its first line, and both accesses
abbrev pub race_words : Recording → How → ℕ → ℕ → ℕ → ℕ → List ℕ
race_words r how n runs a b = race_head how n ++ count_text runs (codes "run") ++ codes " both are next\n" ++ pair_text r a b

-- a race that the schedule `events` shows: the same, with the number of its runs, and then its runs: all, or the first
-- ones of many as one block
abbrev pub IsRaceTold : Recording → How → List ℕ → Bool → ℕ → ℕ → List ℕ → Type 0
IsRaceTold r how events all a b text =
    (told : List ℕ) × AreRunsTold r events all told × (text ≡ race_words r how (length events) (run_total r events) a b ++ told)

-- a comes before b by these chains: the first line, both accesses, and the chains
abbrev pub IsForcedTold : Recording → List Chain → ℕ → ℕ → List ℕ → Type 0
IsForcedTold r cs a b text = (told : List ℕ) × AreTold r cs told × (text ≡ forced_head a b ++ pair_text r a b ++ codes "since\n" ++ told)

-- both threads hold lock l: the first line, both accesses, and the section of each
abbrev pub IsGuardedTold : Recording → ℕ → ℕ → ℕ → List ℕ → Type 0
IsGuardedTold r l a b text =
    (one other : List ℕ) × IsSectionTold r a l one × IsSectionTold r b l other × (text ≡ guarded_head r l ++ pair_text r a b ++ one ++ other)

-- the steps contradict each schedule: the first line, both accesses, and the steps
abbrev pub contradicted_text : Recording → List Step → ℕ → ℕ → List ℕ
contradicted_text r steps a b = contradicted_head ++ pair_text r a b ++ codes "since in such an order\n" ++ steps_text r (a, b) steps

-- undecided: the first line, both accesses, and the events by which SHB orders them, which is presentation
abbrev pub IsUndecidedTold : Recording → ℕ → ℕ → List ℕ → Type 0
IsUndecidedTold r a b text = (rest : List ℕ) × (text ≡ undecided_head ++ pair_text r a b ++ codes "in SHB\n" ++ rest)

-- the text of a verdict on the pair
abbrev pub IsTold : Recording → Verdict → ℕ → ℕ → List ℕ → Type 0
IsTold r (Race how events all) a b text = IsRaceTold r how events.now all a b text
IsTold r (Forced chains) a b text = IsForcedTold r chains.now a b text
IsTold r (Guarded lock) a b text = IsGuardedTold r lock a b text
IsTold r (Contradicted steps) a b text = text ≡ contradicted_text r steps.now a b
IsTold r (Undecided events) a b text = IsUndecidedTold r a b text
