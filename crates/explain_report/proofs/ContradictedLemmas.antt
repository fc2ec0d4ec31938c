-- The lines of the steps that are left, one step on and at the end.
use Rattle.std.proofs.Common.{◌≡◌, ◌<◌, ◌≤◌, ◌+◌, ◌++◌, ℕ, List, [], ◌∷◌, drop, get_or, length, append_assoc, append-nil, refl, sym, ap, ◌∙◌}
use Rattle.std.proofs.lemmas.List.{drop_all, drop_more}
use Rattle.rapid_text.specs.Recording.{Recording}
use Rattle.closed_order.specs.declared.steps.Step.{Step}
use Rattle.explain_report.specs.Contradicted.{step_text, steps_from}

from_one : (r : Recording) (pair : ℕ × ℕ) (i : ℕ) (s : Step) (ss : List Step) → steps_from r pair i (s ∷ ss) ≡ step_text r pair i s ++ steps_from r pair (i + 1) ss
unfolding steps_from
from_one r pair i s ss = refl

from_none : (r : Recording) (pair : ℕ × ℕ) (i : ℕ) → steps_from r pair i [] ≡ []
unfolding steps_from
from_none r pair i = refl

-- after one more step, what was appended and what is left are the same text
pub steps_more : (r : Recording) (pair : ℕ × ℕ) (steps : List Step) (i : ℕ) (d : Step) (old new : List ℕ) → i < length steps → new ≡ old ++ step_text r pair i (get_or steps i d)
    → new ++ steps_from r pair (i + 1) (drop (i + 1) steps) ≡ old ++ steps_from r pair i (drop i steps)
steps_more r pair steps i d old new within is =
    let rest : List ℕ = steps_from r pair (i + 1) (drop (i + 1) steps) in
    ap (λ (xs : List ℕ). xs ++ rest) is
    ∙ append_assoc old (step_text r pair i (get_or steps i d)) rest
    ∙ ap (λ (xs : List ℕ). old ++ xs) (sym (from_one r pair i (get_or steps i d) (drop (i + 1) steps)))
    ∙ ap (λ (ss : List Step). old ++ steps_from r pair i ss) (sym (drop_more steps i d within))

-- at the end nothing is left
pub steps_end : (r : Recording) (pair : ℕ × ℕ) (steps : List Step) (i : ℕ) (items : List ℕ) → length steps ≤ i → items ≡ items ++ steps_from r pair i (drop i steps)
steps_end r pair steps i items past =
    sym (append-nil items)
    ∙ ap (λ (xs : List ℕ). items ++ xs) (sym (from_none r pair i))
    ∙ ap (λ (ss : List Step). items ++ steps_from r pair i ss) (sym (drop_all i steps past))
