-- The messages about an access and about a pair. A rank is 0 for a race, 1 for what is undecided, 2 for what is apart. `r` is the trace's
-- recording. All notions here are this project's own.
use Rattle.std.specs.Prelude.{ℕ, nat_eq, cond, List, [], ◌∷◌, ◌++◌, codes, decimal}
use Rattle.std.specs.List.{concat}
use Rattle.rapid_text.specs.Recording.{Recording}
use Rattle.triage_report.specs.lines.Accesses.{spot}
use Rattle.triage_report.specs.lines.Reasons.{apart_words, race_words, undecided_words}
use Rattle.race_triage.specs.declared.verdicts.Outcome.{Outcome}
use Rattle.race_triage.specs.declared.verdicts.Outcome.TheVariants.{Race, Undecided, Apart}
use Rattle.race_triage.specs.declared.verdicts.Verdict.{Verdict}
use Rattle.triage_report.specs.sarif.Accesses.{Told, told_at}

-- the rank of what was found
abbrev pub outcome_rank : Outcome → ℕ
outcome_rank (Race how events threads) = 0
outcome_rank (Undecided tried) = 1
outcome_rank Apart = 2

-- whether the rule is broken
abbrev pub kind_word : ℕ → List ℕ
kind_word rank = cond (nat_eq rank 0) (codes "fail") (cond (nat_eq rank 1) (codes "fail") (codes "pass"))

-- how bad that is
abbrev pub level_word : ℕ → List ℕ
level_word rank = cond (nat_eq rank 0) (codes "error") (cond (nat_eq rank 1) (codes "warning") (codes "none"))

-- the name of the rule, and its place among the rules
abbrev pub rule_word : ℕ → List ℕ
rule_word rank = cond (nat_eq rank 0) (codes "data-race") (cond (nat_eq rank 1) (codes "undecided-pair") (codes "apart"))

abbrev pub rule_number : ℕ → ℕ
rule_number rank = cond (nat_eq rank 0) 0 (cond (nat_eq rank 1) 1 2)

-- what an access does, and where
abbrev pub access_words : Told → List ℕ
access_words t = concat (t.thread ∷ codes " " ∷ t.verb ∷ codes " " ∷ t.variable ∷ codes " at " ∷ spot t.location ∷ [])

-- what was found
abbrev pub found_words : ℕ → List ℕ
found_words rank = cond (nat_eq rank 0) (codes "Data race") (cond (nat_eq rank 1) (codes "Undecided pair") (codes "No race"))

-- and on which variable, that of the later access
abbrev pub title_words : ℕ → Told → List ℕ
title_words rank u = concat (found_words rank ∷ codes " on " ∷ u.variable ∷ codes ": " ∷ [])

-- both accesses, the later first
abbrev pub both_words : Told → Told → List ℕ
both_words t u = access_words u ++ codes ", and " ++ access_words t ++ codes "; "

-- the reason for the verdict
abbrev pub reason_words : Outcome → List ℕ
reason_words (Race how events threads) = race_words events threads
reason_words (Undecided tried) = undecided_words tried
reason_words Apart = apart_words

-- how to see more
abbrev pub more_words : Verdict → List ℕ
more_words v = concat (codes ". More: racebench explain TRACE " ∷ decimal v.first ∷ codes " " ∷ decimal v.second ∷ [])

-- the message about a pair
abbrev pub message_words : Recording → Verdict → List ℕ
message_words r v =
    title_words (outcome_rank v.outcome) (told_at r v.second) ++ both_words (told_at r v.first) (told_at r v.second) ++ reason_words v.outcome ++ more_words v
