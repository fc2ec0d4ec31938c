-- The text of a derivation that contradicts `pair`: a line of the first event for each step, and how it follows. `r` is
-- a recording. All notions here are this project's own.
use Rattle.std.specs.Prelude.{ℕ, suc, ◌+◌, ◌-◌, ◌==◌, nat_lt, cond, List, [], ◌∷◌, ◌++◌, length, drop, Option, Some, None, codes, decimal}
use Rattle.rapid_text.specs.Recording.{Recording}
use Rattle.closed_order.specs.declared.steps.Rule.{Rule}
use Rattle.closed_order.specs.declared.steps.Rule.TheVariants.{Base, Must, Through, Overwritten, Unseen, Initial, Enters, Ends, Lasts}
use Rattle.closed_order.specs.declared.steps.Step.{Step}
use Rattle.explain_report.specs.Chains.{line_at}
use Rattle.explain_report.specs.Verdicts.{count_text}

-- event d, or e itself
abbrev pub other_text : ℕ → ℕ → List ℕ
other_text e d = cond (e == d) (codes "itself") (decimal d)

-- event e comes before event d, which may be e itself
abbrev pub before_text : ℕ → ℕ → List ℕ
before_text e d = codes "comes before " ++ other_text e d

-- the relation of event e to the second event of its step
abbrev pub relation_text : ℕ → Option ℕ → List ℕ
relation_text e None = codes "is there"
relation_text e (Some d) = before_text e d

-- the number of the step with this index
abbrev pub step_number : ℕ → List ℕ
step_number i = decimal (i + 1)

abbrev pub by_one : ℕ → List ℕ
by_one i = codes ", by " ++ step_number i

abbrev pub by_two : ℕ → ℕ → List ℕ
by_two i j = by_one i ++ codes " and " ++ step_number j

-- a number between two texts
abbrev pub around : List ℕ → ℕ → List ℕ → List ℕ
around words n rest = words ++ decimal n ++ rest

-- what makes a step true, before the relation of its events
abbrev pub before_relation : Rule → List ℕ
before_relation (Overwritten read before due) = around (codes "is written before ") read (codes " reads, so it ")
before_relation (Unseen after due) = codes "reads what that overwrites, so it "
before_relation (Initial due) = codes "reads what nobody wrote, so it "
before_relation (Enters event before due) = around (codes "comes before ") event (codes " in a critical section, so it ")
before_relation (Ends start before) = around (codes "ends a critical section that begins first, at ") start (codes ", so it ")
before_relation _ = []

-- the event of the pair that is the request with this index
abbrev pub request_in : ℕ × ℕ → ℕ → ℕ
request_in pair request = cond (request == 0) pair.0 pair.1

-- what makes it true, after that, and the steps that it follows from
abbrev pub after_relation : ℕ × ℕ → Rule → List ℕ
after_relation pair (Base request) = around (codes ", so that ") (request_in pair request) (codes " can be next")
after_relation pair Must = codes " in every correct reordering"
after_relation pair (Through left right) = by_two left right
after_relation pair (Overwritten read before due) = by_two before due
after_relation pair (Unseen after due) = by_two after due
after_relation pair (Initial due) = by_one due
after_relation pair (Enters event before due) = by_two before due
after_relation pair (Ends start before) = by_one before
after_relation pair (Lasts request due) = codes ", whose critical section does not end" ++ by_one due

-- the lines of the step with this index
abbrev pub step_text : Recording → ℕ × ℕ → ℕ → Step → List ℕ
step_text r pair i s =
    step_number i ++ codes ". " ++ line_at r s.first ++ codes "  " ++ before_relation s.rule ++ relation_text s.first s.second
    ++ after_relation pair s.rule ++ codes "\n"

-- the lines of steps, the first of which has index i
unfoldable pub steps_from : Recording → ℕ × ℕ → ℕ → List Step → List ℕ
steps_from r pair i [] = []
steps_from r pair i (s ∷ ss) = step_text r pair i s ++ steps_from r pair (i + 1) ss

-- that n steps are not printed
abbrev pub left_out_text : ℕ → List ℕ
left_out_text n = cond (nat_lt 0 n) (codes "the first " ++ count_text n (codes "step") ++ codes " are left out\n") []

-- how many of n steps are not printed: all but the last 200
abbrev pub left_out : ℕ → ℕ
left_out n = n - 200

-- the last 200 steps
abbrev pub steps_text : Recording → ℕ × ℕ → List Step → List ℕ
steps_text r pair steps =
    left_out_text (left_out (length steps)) ++ steps_from r pair (left_out (length steps)) (drop (left_out (length steps)) steps)
