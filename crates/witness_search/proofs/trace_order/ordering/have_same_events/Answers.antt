use Rattle.std.proofs.Common.{◌≡◌, ℕ, List, ◌∙◌, sym, subst}
use Rattle.std.specs.List.Sorted.{IsPermutation}
use Rattle.std.proofs.lemmas.List.Sorted.{IsPermutation-sym, IsPermutation-trans}
use Rattle.witness_search.proofs.trace_order.ordering.have_same_events.Goals as goal

pub returns-then-are_equal : goal.returns-then-are_equal
returns-then-are_equal c _ =
    let left = c.in_ok-left.left.items in
    let right = c.in_ok-right.right.items in
    let same : left ≡ right = sym c.as_slice.ensures.value ∙ c.are_equal.ensures.0 c.if-are_equal.true ∙ c.as_slice-2.ensures.value in
    IsPermutation-trans c.args.one.now left c.args.other.now c.in_ok-left.ensures
    (subst (λ (xs : List ℕ). IsPermutation xs c.args.other.now) (sym same) (IsPermutation-sym c.args.other.now right c.in_ok-right.ensures))
