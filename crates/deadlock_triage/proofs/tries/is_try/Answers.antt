use Rattle.std.proofs.Common.{◌≡◌, ◌+◌, List, ℕ, ap, arith, below_more, codes, nat_eq, sym, ◌∙◌}
use Rattle.std.specs.List.{starts_with}
use Rattle.std.proofs.lemmas.Bool.{false≢true}
use Rattle.deadlock_triage.specs.Tries.{begins_try, is_arrow}
use Rattle.deadlock_triage.proofs.TryLemmas.{rest_is, try-here, try-none}
use Rattle.deadlock_triage.proofs.tries.is_try.Goals as goal

pub loop-at-preserved : goal.loop-at-preserved
loop-at-preserved c =
    let text = c.args.location.now in
    let at = c.loop-at.at in
    below_more _ _ c.loop-at.invariant
    (ap (λ (rest : List ℕ). starts_with nat_eq rest (codes " < ")) (sym (rest_is text at)) ∙ sym c.starts_with.ensures.value ∙ c.if-starts_with.false)

pub returns-then-starts_with : goal.returns-then-starts_with
returns-then-starts_with c =
    let text = c.args.location.now in
    let at = c.loop-at.at in
    let arrow : is_arrow text at ≡ c.starts_with.result = ap (λ (rest : List ℕ). starts_with nat_eq rest (codes " < ")) (sym (rest_is text at)) ∙ sym c.starts_with.ensures.value in
    try-here text at c.loop-at.invariant (omega (arith, c.loop-at-test.true)) (arrow ∙ c.if-starts_with.true) c.begins_try.result
    (c.begins_try.ensures ∙ ap begins_try (rest_is text (at + 3)))

pub returns : goal.returns
returns c = (
  λ so. absurd (false≢true so),
  λ t. absurd (try-none c.args.location.now c.loop-at.at c.loop-at.invariant (omega (arith, c.loop-at-test.false)) t),
)
