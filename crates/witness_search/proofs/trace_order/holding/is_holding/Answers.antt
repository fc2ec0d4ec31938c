use Rattle.std.proofs.Common.{◌≡◌, ℕ, get_or, Some, true, false, not, refl, sym, ap, ◌∙◌, subst, inl, inr}
use Rattle.std.proofs.lemmas.Bool.{cases_Bool, false≢true, true≢false}
use Rattle.std.proofs.lemmas.Option.{same_Some}
use Rattle.must_order.specs.Layout.{IsCounted}
use Rattle.witness_search.proofs.trace_order.HoldLemmas.{not_holding-none, IsHolding-last, not_holding-last}
use Rattle.witness_search.proofs.trace_order.holding.is_holding.Goals as goal

pub returns-in_default : goal.returns-in_default
returns-in_default c = (
  λ so. absurd (false≢true so),
  λ holding.
      absurd
      (not_holding-none c.args.indexed.now c.len-len.ensures.disciplined (λ t. get_or c.args.row.now t 0) c.args.lock c.args.lane.now c.requires.lane
      (c.in_default.ensures.none refl) holding),
)

pub returns-in-Some-section : goal.returns-in-Some-section
returns-in-Some-section c =
    let r = c.args.indexed.now in
    let row : ℕ → ℕ = λ t. get_or c.args.row.now t 0 in
    let end = c.in-Some-section.end in (
      λ so.
          IsHolding-last r c.len-len.ensures.disciplined row c.args.lock c.args.lane.now c.requires.lane c.in-Some.last c.in-Some.ensures.last
          (λ k ends counted.
          let one : end ≡ k = same_Some end k (c.in-Some-section.ensures.section ∙ ends) in
          true≢false (sym so ∙ ap not (c.is_counted.ensures.1 (subst (IsCounted r.events row) (sym one) counted)))),
      λ holding.
          elim (cases_Bool c.is_counted.result) [
            | inl so ↦
                absurd
                (not_holding-last r c.len-len.ensures.disciplined row c.args.lock c.args.lane.now c.requires.lane c.in-Some.last c.in-Some.ensures.last end
                (sym c.in-Some-section.ensures.section) (c.is_counted.ensures.0 so) holding)
            | inr not_so ↦ ap not not_so
          ],
    )
