use Rattle.std.proofs.Common.{◌≡◌, Bool, false, List, ℕ, length, replicate, ap, sym, subst, ◌∙◌}
use Rattle.explain_report.specs.Causes.{IsWaiting, none_waits, waits_for}
use Rattle.explain_report.proofs.CauseLemmas.{waiting-for, waiting-none}
use Rattle.explain_report.proofs.causes.waiting_for.Goals as goal

pub returns-clause-waits : goal.returns-clause-waits
returns-clause-waits c =
    let cs = c.args.chains.now in
    let ss = c.args.steps.now in
    let none : c.in_ok-vec.field-0.items ≡ replicate (length cs) false = c.in_ok-vec.ensures.items_if_clones_equal (λ y e. e) in
    c.in_ok-add_causes.ensures ∙ ap (λ (told : List Bool). waits_for cs 1 ss (told, c.new.result.items)) none
    ∙ ap (λ (left : List (ℕ × ℕ)). waits_for cs 1 ss (replicate (length cs) false, left)) c.new.ensures.items

pub returns-clause-kept : goal.returns-clause-kept
returns-clause-kept c =
    let cs = c.args.chains.now in
    let ss = c.args.steps.now in
    let none : c.in_ok-vec.field-0.items ≡ replicate (length cs) false = c.in_ok-vec.ensures.items_if_clones_equal (λ y e. e) in
    let same =
    c.in_ok-add_causes.ensures ∙ ap (λ (told : List Bool). waits_for cs 1 ss (told, c.new.result.items)) none
    ∙ ap (λ (left : List (ℕ × ℕ)). waits_for cs 1 ss (replicate (length cs) false, left)) c.new.ensures.items in
    subst (IsWaiting cs 0) (sym same) (waiting-for cs 1 0 ss (none_waits cs) (waiting-none cs))
