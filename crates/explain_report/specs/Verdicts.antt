-- The first words of the text for a pair. `a` is the earlier event, `b` the later. All notions here are this
-- project's own.
use Rattle.std.specs.Prelude.{ℕ, ◌==◌, cond, List, [], ◌++◌, length, slice_index_or, codes, decimal}
use Rattle.rapid_text.specs.Recording.{Recording}
use Rattle.explain_report.specs.declared.verdict.How.{How}
use Rattle.explain_report.specs.declared.verdict.How.TheVariants.{Candidate, Beyond, Turned}
use Rattle.explain_report.specs.declared.verdict.Verdict.{Verdict}
use Rattle.explain_report.specs.declared.verdict.Verdict.TheVariants.{Race, Forced, Guarded, Contradicted, Undecided}

-- the ending of a noun for n things
abbrev pub plural : ℕ → List ℕ
plural n = cond (n == 1) [] (codes "s")

-- n and `words`, in the plural unless n is 1
abbrev pub count_text : ℕ → List ℕ → List ℕ
count_text n words = decimal n ++ codes " " ++ words ++ plural n

abbrev pub how_text : How → List ℕ
how_text Candidate = codes "race candidate"
how_text Beyond = codes "race beyond"
how_text Turned = codes "race turned"

-- a race, which a schedule of n events shows
abbrev pub race_head : How → ℕ → List ℕ
race_head how n = how_text how ++ codes ": after " ++ count_text n (codes "event") ++ codes " in "

-- a comes before b
abbrev pub forced_head : ℕ → ℕ → List ℕ
forced_head a b = codes "apart: " ++ decimal a ++ codes " comes before " ++ decimal b ++ codes " in every correct reordering\n"

-- both threads hold lock l
abbrev pub guarded_head : Recording → ℕ → List ℕ
guarded_head r l = codes "apart: both threads hold " ++ slice_index_or r.locks l [] ++ codes "\n"

-- reads and critical sections contradict each schedule
abbrev pub contradicted_head : List ℕ
contradicted_head = codes "apart: no order of the critical sections and reads shows the two side by side\n"

-- undecided: none of the above
abbrev pub undecided_head : List ℕ
undecided_head = codes "undecided: no schedule was found, and neither order nor lock forbids one\n"

-- the first words of a verdict on the pair
abbrev pub verdict_head : Recording → Verdict → ℕ → ℕ → List ℕ
verdict_head r (Race how events all) a b = race_head how (length events.now)
verdict_head r (Forced chains) a b = forced_head a b
verdict_head r (Guarded lock) a b = guarded_head r lock
verdict_head r (Contradicted steps) a b = contradicted_head
verdict_head r (Undecided events) a b = undecided_head
